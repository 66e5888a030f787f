-- Edges that don't overlap: of one direction, no two share a point (their ends, where they finish, apart). Cutting keeps that.
use Rattle.std.proofs.Common.{◌≡◌, refl, sym, subst, ap, ◌∙◌, ℕ, zero, suc, ◌<◌, ◌⊎◌, inl, inr, arith, List, [], ◌∷◌, Bool, true, false}
use Rattle.std.specs.Prelude.{ℤ, pos, negsuc, neg_ℤ, ◌-ℤ◌, ◌*ℤ◌, ◌<ℤ◌, ◌≤ℤ◌, int_lt, ◌&&◌, ◌||◌}
use Rattle.std.specs.Ordering.{int_eq}
use Rattle.std.proofs.lemmas.Int.{ints, by_lt_z}
use Rattle.std.proofs.lemmas.Bool.{false≢true}
use Rattle.std.proofs.lemmas.Bool.Decides.{Decides-int_eq}
use Rattle.grid_num.specs.declared.Point.{Point}
use Rattle.plane.specs.Covering.{Edge}
use Rattle.plane.specs.Edges.{IsOctilinear}
use Rattle.plane.proofs.On.{same_pos}
use Rattle.plane.proofs.Counts.{less_false, neg_pos, level_run, rise_run, fall_run}
use Rattle.rings.specs.Turning.{direction}
use Rattle.rings.specs.Slits.{is_strictly_between, is_inside_edge, first_part, second_part, cut_one, cut_edges}
use Rattle.rings.proofs.Lists.{Has, has_left, has_right, has_parts, NoRepeats, no_repeats_append}
use Rattle.rings.proofs.Lines.{line, along, GoesOn, IsGood, direction_is, direction_low, good_octilinear}
use Rattle.rings.proofs.Turning.{AreApart}
use Rattle.rings.proofs.Unique.{and_both}

-- q is on the stretch that e is of a line of direction d, but not at its finish
pub record IsAlong (d : ℕ) (e : Edge) (q : Point) : Type 0 where
  pub line : line d q ≡ line d e.start
  pub from : along d e.start ≤ℤ along d q
  pub to : along d q <ℤ along d e.finish

abbrev pub OnHalf : Edge → Point → Type 0
OnHalf e q = IsAlong (direction e) e q

unfoldable pub AreGood : List Edge → Type 0
AreGood es = (e : Edge) → Has es e → IsGood e

unfoldable pub AreParted : List Edge → Type 0
AreParted es = (e f : Edge) (q : Point) → Has es e → Has es f → direction e ≡ direction f → OnHalf e q → OnHalf f q → e ≡ f

pub starts_on : (e : Edge) → IsGood e → OnHalf e e.start
starts_on e g = record { line = refl; from = omega (arith, ints); to = g.on }

pub parted_apart : (es : List Edge) → AreGood es → AreParted es → AreApart es
unfolding AreGood AreParted AreApart
parted_apart es g p e f h i s d = p e f e.start h i d (starts_on e (g e h)) (subst (λ z. OnHalf f z) (sym s) (starts_on f (g f i)))

-- ---- inside
between_cases : (a z b : ℤ) → is_strictly_between a z b ≡ true → ((a <ℤ z) × (z <ℤ b)) ⊎ ((b <ℤ z) × (z <ℤ a))
between_cases a z b h = at (int_lt a z) (int_lt z b) (int_lt b z) (int_lt z a) refl refl refl refl h
  where
    lt : (u v : ℤ) → int_lt u v ≡ true → u <ℤ v
    lt u v e = by_lt_z {P = u <ℤ v} u v (λ l. l) (λ l. absurd (false≢true (sym (less_false u v l) ∙ e)))

    at : (p q r s : Bool) → int_lt a z ≡ p → int_lt z b ≡ q → int_lt b z ≡ r → int_lt z a ≡ s → ((p && q) || (r && s)) ≡ true → ((a <ℤ z) × (z <ℤ b)) ⊎ ((b <ℤ z) × (z <ℤ a))
    at true true r s e f g i h = inl (lt a z e, lt z b f)
    at true false true true e f g i h = inr (lt b z g, lt z a i)
    at true false true false e f g i h = absurd (false≢true h)
    at true false false s e f g i h = absurd (false≢true h)
    at false q true true e f g i h = inr (lt b z g, lt z a i)
    at false q true false e f g i h = absurd (false≢true h)
    at false q false s e f g i h = absurd (false≢true h)

-- on the line of e and strictly between its ends
pub record IsWithin (e : Edge) (q : Point) : Type 0 where
  pub line : line (direction e) q ≡ line (direction e) e.start
  pub after : along (direction e) e.start <ℤ along (direction e) q
  pub before : along (direction e) q <ℤ along (direction e) e.finish

pub same_factor : (d c e : ℤ) → d *ℤ c ≡ d *ℤ e → (d ≡ pos 0) ⊎ (c ≡ e)
same_factor (pos zero) c e h = inl refl
same_factor (pos (suc n)) c e h = inr (same_pos (suc n) c e (omega arith) h)
same_factor (negsuc n) c e h =
    inr (same_pos (suc n) c e (omega arith)
    (let m : negsuc n *ℤ c ≡ neg_ℤ (pos (suc n) *ℤ c) = neg_pos (suc n) c in let o : negsuc n *ℤ e ≡ neg_ℤ (pos (suc n) *ℤ e) = neg_pos (suc n) e in omega (arith, ints)))

-- in linear form: level, upright, or slanted one way or the other, and q on the same line
Straight : Edge → Point → Type 0
Straight e q =
    (e.start.y ≡ e.finish.y)
    ⊎ (((e.start.x ≡ e.finish.x) × (q.x ≡ e.start.x))
    ⊎ (((e.finish.x -ℤ e.start.x ≡ e.finish.y -ℤ e.start.y) × (q.x -ℤ e.start.x ≡ q.y -ℤ e.start.y))
    ⊎ ((e.finish.x -ℤ e.start.x ≡ neg_ℤ (e.finish.y -ℤ e.start.y)) × (q.x -ℤ e.start.x ≡ neg_ℤ (q.y -ℤ e.start.y)))))

straight : (e : Edge) (q : Point) → IsOctilinear e → (e.finish.y -ℤ e.start.y) *ℤ (q.x -ℤ e.start.x) ≡ (e.finish.x -ℤ e.start.x) *ℤ (q.y -ℤ e.start.y) → Straight e q
unfolding IsOctilinear Straight
straight e q (inl l) c = inl l
straight e q (inr (inl u)) c =
    let k = level_run (e.finish.x -ℤ e.start.x) (e.finish.y -ℤ e.start.y) (q.y -ℤ e.start.y) (omega (arith, ints)) in
    elim (same_factor (e.finish.y -ℤ e.start.y) (q.x -ℤ e.start.x) (pos 0) (c ∙ k)) [ inl z ↦ inl (omega (arith, ints, z)) | inr z ↦ inr (inl (u, omega (arith, ints, z))) ]
straight e q (inr (inr (inl r))) c =
    let k = rise_run (e.finish.x -ℤ e.start.x) (e.finish.y -ℤ e.start.y) (q.y -ℤ e.start.y) r in
    elim (same_factor (e.finish.y -ℤ e.start.y) (q.x -ℤ e.start.x) (q.y -ℤ e.start.y) (c ∙ k)) [ inl z ↦ inl (omega (arith, ints, z)) | inr z ↦ inr (inr (inl (r, z))) ]
straight e q (inr (inr (inr r))) c =
    let k = fall_run (e.finish.x -ℤ e.start.x) (e.finish.y -ℤ e.start.y) (q.y -ℤ e.start.y) r in
    elim (same_factor (e.finish.y -ℤ e.start.y) (q.x -ℤ e.start.x) (neg_ℤ (q.y -ℤ e.start.y)) (c ∙ k)) [ inl z ↦ inl (omega (arith, ints, z)) | inr z ↦ inr (inr (inr (r, z))) ]

-- by rows, or on a level edge along its row
Amid : Edge → Point → Type 0
Amid e q =
    (((e.start.y <ℤ q.y) × (q.y <ℤ e.finish.y)) ⊎ ((e.finish.y <ℤ q.y) × (q.y <ℤ e.start.y)))
    ⊎ ((e.start.y ≡ e.finish.y) × (q.y ≡ e.start.y) × (((e.start.x <ℤ q.x) × (q.x <ℤ e.finish.x)) ⊎ ((e.finish.x <ℤ q.x) × (q.x <ℤ e.start.x))))

or_cases : (a b : Bool) → (a || b) ≡ true → (a ≡ true) ⊎ (b ≡ true)
or_cases true b h = inl refl
or_cases false b h = inr h

amid : (e : Edge) (q : Point) → (is_strictly_between e.start.y q.y e.finish.y || (int_eq e.start.y e.finish.y && (int_eq q.y e.start.y && is_strictly_between e.start.x q.x e.finish.x))) ≡ true → Amid e q
unfolding Amid
amid e q h = elim (or_cases (is_strictly_between e.start.y q.y e.finish.y) (int_eq e.start.y e.finish.y && (int_eq q.y e.start.y && is_strictly_between e.start.x q.x e.finish.x)) h) [
  | inl k ↦ inl (between_cases e.start.y q.y e.finish.y k)
  | inr k ↦
      let a = and_both (int_eq e.start.y e.finish.y) (int_eq q.y e.start.y && is_strictly_between e.start.x q.x e.finish.x) k in
      let b = and_both (int_eq q.y e.start.y) (is_strictly_between e.start.x q.x e.finish.x) a.1 in
      inr ((Decides-int_eq e.start.y e.finish.y).0 a.0, (Decides-int_eq q.y e.start.y).0 b.0, between_cases e.start.x q.x e.finish.x b.1)
]

within_at : (d : ℕ) → d < 8 → (e : Edge) (q : Point) → GoesOn d e → Straight e q → Amid e q
    → (line d q ≡ line d e.start) × (along d e.start <ℤ along d q) × (along d q <ℤ along d e.finish)
unfolding line along Straight Amid
within_at zero h e q g s m = let l = g.line in let o = g.on in (omega (arith, ints, l, o, s, m), omega (arith, ints, l, o, s, m), omega (arith, ints, l, o, s, m))
within_at (suc zero) h e q g s m = let l = g.line in let o = g.on in (omega (arith, ints, l, o, s, m), omega (arith, ints, l, o, s, m), omega (arith, ints, l, o, s, m))
within_at (suc (suc zero)) h e q g s m = let l = g.line in let o = g.on in (omega (arith, ints, l, o, s, m), omega (arith, ints, l, o, s, m), omega (arith, ints, l, o, s, m))
within_at (suc (suc (suc zero))) h e q g s m = let l = g.line in let o = g.on in (omega (arith, ints, l, o, s, m), omega (arith, ints, l, o, s, m), omega (arith, ints, l, o, s, m))
within_at (suc (suc (suc (suc zero)))) h e q g s m = let l = g.line in let o = g.on in (omega (arith, ints, l, o, s, m), omega (arith, ints, l, o, s, m), omega (arith, ints, l, o, s, m))
within_at (suc (suc (suc (suc (suc zero))))) h e q g s m = let l = g.line in let o = g.on in (omega (arith, ints, l, o, s, m), omega (arith, ints, l, o, s, m), omega (arith, ints, l, o, s, m))
within_at (suc (suc (suc (suc (suc (suc zero)))))) h e q g s m = let l = g.line in let o = g.on in (omega (arith, ints, l, o, s, m), omega (arith, ints, l, o, s, m), omega (arith, ints, l, o, s, m))
within_at (suc (suc (suc (suc (suc (suc (suc zero))))))) h e q g s m = let l = g.line in let o = g.on in (omega (arith, ints, l, o, s, m), omega (arith, ints, l, o, s, m), omega (arith, ints, l, o, s, m))
within_at (suc (suc (suc (suc (suc (suc (suc (suc d)))))))) h e q g s m = absurd (omega (arith, h))

pub inside_within : (e : Edge) (q : Point) → IsGood e → is_inside_edge e q ≡ true → IsWithin e q
unfolding is_inside_edge
inside_within e q g h =
    let a = and_both (int_eq ((e.finish.y -ℤ e.start.y) *ℤ (q.x -ℤ e.start.x)) ((e.finish.x -ℤ e.start.x) *ℤ (q.y -ℤ e.start.y)))
    (is_strictly_between e.start.y q.y e.finish.y || (int_eq e.start.y e.finish.y && (int_eq q.y e.start.y && is_strictly_between e.start.x q.x e.finish.x))) h in
    let s = straight e q (good_octilinear e g) ((Decides-int_eq ((e.finish.y -ℤ e.start.y) *ℤ (q.x -ℤ e.start.x)) ((e.finish.x -ℤ e.start.x) *ℤ (q.y -ℤ e.start.y))).0 a.0) in
    let w = within_at (direction e) (direction_low e) e q g s (amid e q a.1) in
    record { line = w.0; after = w.1; before = w.2 }

-- ---- the parts of an edge
pub first_goes : (e : Edge) (q : Point) → IsWithin e q → GoesOn (direction e) (first_part e q)
first_goes e q w = record { line = w.line; on = w.after }

pub second_goes : (e : Edge) (q : Point) → IsGood e → IsWithin e q → GoesOn (direction e) (second_part e q)
second_goes e q g w = record { line = g.line ∙ sym w.line; on = w.before }

pub first_direction : (e : Edge) (q : Point) → IsWithin e q → direction (first_part e q) ≡ direction e
first_direction e q w = direction_is (direction e) (direction_low e) (first_part e q) (first_goes e q w)

pub second_direction : (e : Edge) (q : Point) → IsGood e → IsWithin e q → direction (second_part e q) ≡ direction e
second_direction e q g w = direction_is (direction e) (direction_low e) (second_part e q) (second_goes e q g w)

-- f is the edge or one of its parts
pub data IsPart (q : Point) (e f : Edge) : Type 0 where
  Whole : is_inside_edge e q ≡ false → f ≡ e → IsPart q e f
  First : is_inside_edge e q ≡ true → f ≡ first_part e q → IsPart q e f
  Second : is_inside_edge e q ≡ true → f ≡ second_part e q → IsPart q e f

pub cut_true : (q : Point) (e : Edge) → is_inside_edge e q ≡ true → cut_one q e ≡ first_part e q ∷ second_part e q ∷ []
unfolding cut_one
cut_true q e h = rw h refl

pub cut_false : (q : Point) (e : Edge) → is_inside_edge e q ≡ false → cut_one q e ≡ e ∷ []
unfolding cut_one
cut_false q e h = rw h refl

one_part : (q : Point) (e f : Edge) → Has (cut_one q e) f → IsPart q e f
unfolding Has
one_part q e f h = at (is_inside_edge e q) refl
  where
    at : (b : Bool) → is_inside_edge e q ≡ b → IsPart q e f
    at true i = elim (subst (λ fs. Has fs f) (cut_true q e i) h) [ inl k ↦ First i (sym k) | inr k ↦ elim k [ inl k ↦ Second i (sym k) | inr k ↦ absurd k ] ]
    at false i = elim (subst (λ fs. Has fs f) (cut_false q e i) h) [ inl k ↦ Whole i (sym k) | inr k ↦ absurd k ]

pub part_one : (q : Point) (e f : Edge) → IsPart q e f → Has (cut_one q e) f
unfolding Has
part_one q e f (Whole i k) = subst (λ fs. Has fs f) (sym (cut_false q e i)) (inl (sym k))
part_one q e f (First i k) = subst (λ fs. Has fs f) (sym (cut_true q e i)) (inl (sym k))
part_one q e f (Second i k) = subst (λ fs. Has fs f) (sym (cut_true q e i)) (inr (inl (sym k)))

pub has_cut : (q : Point) (es : List Edge) (f : Edge) → Has (cut_edges q es) f → (e : Edge) × Has es e × IsPart q e f
unfolding cut_edges Has
has_cut q [] f h = absurd h
has_cut q (e ∷ es) f h = elim (has_parts (cut_one q e) (cut_edges q es) f h) [
  | inl i ↦ (e, inl refl, one_part q e f i)
  | inr i ↦ (let r = has_cut q es f i in (r.0, inr r.1, r.2))
]

pub cut_has : (q : Point) (es : List Edge) (e f : Edge) → Has es e → IsPart q e f → Has (cut_edges q es) f
unfolding cut_edges Has
cut_has q [] e f h p = absurd h
cut_has q (d ∷ es) e f (inl k) p = has_left (cut_one q d) (cut_edges q es) f (subst (λ z. Has (cut_one q z) f) (sym k) (part_one q e f p))
cut_has q (d ∷ es) e f (inr h) p = has_right (cut_one q d) (cut_edges q es) f (cut_has q es e f h p)

-- ---- a part goes as the edge does
pub part_good : (q : Point) (e f : Edge) → IsGood e → IsPart q e f → IsGood f
part_good q e f g (Whole i k) = subst IsGood (sym k) g
part_good q e f g (First i k) = let w = inside_within e q g i in subst IsGood (sym k) (subst (λ d. GoesOn d (first_part e q)) (sym (first_direction e q w)) (first_goes e q w))
part_good q e f g (Second i k) = let w = inside_within e q g i in subst IsGood (sym k) (subst (λ d. GoesOn d (second_part e q)) (sym (second_direction e q g w)) (second_goes e q g w))

pub part_direction : (q : Point) (e f : Edge) → IsGood e → IsPart q e f → direction f ≡ direction e
part_direction q e f g (Whole i k) = ap direction k
part_direction q e f g (First i k) = ap direction k ∙ first_direction e q (inside_within e q g i)
part_direction q e f g (Second i k) = ap direction k ∙ second_direction e q g (inside_within e q g i)

-- x is in the part f
in_first : (e : Edge) (q x : Point) → IsGood e → IsWithin e q → OnHalf (first_part e q) x → OnHalf e x × (along (direction e) x <ℤ along (direction e) q)
in_first e q x g w o =
    let p = subst (λ d. IsAlong d (first_part e q) x) (first_direction e q w) o in
    let t = p.to in
    (record { line = p.line; from = p.from; to = (let b = w.before in omega (arith, ints, t, b)) }, t)

in_second : (e : Edge) (q x : Point) → IsGood e → IsWithin e q → OnHalf (second_part e q) x → OnHalf e x × (along (direction e) q ≤ℤ along (direction e) x)
in_second e q x g w o =
    let p = subst (λ d. IsAlong d (second_part e q) x) (second_direction e q g w) o in
    let t = p.from in
    (record { line = p.line ∙ w.line; from = (let a = w.after in omega (arith, ints, t, a)); to = p.to }, t)

pub part_on : (q : Point) (e f : Edge) (x : Point) → IsGood e → IsPart q e f → OnHalf f x → OnHalf e x
part_on q e f x g (Whole i k) o = subst (λ z. OnHalf z x) k o
part_on q e f x g (First i k) o = (in_first e q x g (inside_within e q g i) (subst (λ z. OnHalf z x) k o)).0
part_on q e f x g (Second i k) o = (in_second e q x g (inside_within e q g i) (subst (λ z. OnHalf z x) k o)).0

-- two parts of an edge that share a point are one part
pub part_same : (q : Point) (e f h : Edge) (x : Point) → IsGood e → IsPart q e f → IsPart q e h → OnHalf f x → OnHalf h x → f ≡ h
part_same q e f h x g (Whole i k) (Whole j l) o p = k ∙ sym l
part_same q e f h x g (Whole i k) (First j l) o p = absurd (false≢true (sym i ∙ j))
part_same q e f h x g (Whole i k) (Second j l) o p = absurd (false≢true (sym i ∙ j))
part_same q e f h x g (First i k) (Whole j l) o p = absurd (false≢true (sym j ∙ i))
part_same q e f h x g (First i k) (First j l) o p = k ∙ sym l
part_same q e f h x g (First i k) (Second j l) o p =
    let w = inside_within e q g i in
    let a = (in_first e q x g w (subst (λ z. OnHalf z x) k o)).1 in
    let b = (in_second e q x g w (subst (λ z. OnHalf z x) l p)).1 in
    absurd (omega (arith, ints, a, b))
part_same q e f h x g (Second i k) (Whole j l) o p = absurd (false≢true (sym j ∙ i))
part_same q e f h x g (Second i k) (First j l) o p =
    let w = inside_within e q g i in
    let a = (in_first e q x g w (subst (λ z. OnHalf z x) l p)).1 in
    let b = (in_second e q x g w (subst (λ z. OnHalf z x) k o)).1 in
    absurd (omega (arith, ints, a, b))
part_same q e f h x g (Second i k) (Second j l) o p = k ∙ sym l

-- ---- all edges, cut at one corner
pub good_cut : (q : Point) (es : List Edge) → AreGood es → AreGood (cut_edges q es)
unfolding AreGood
good_cut q es g f h = let r = has_cut q es f h in part_good q r.0 f (g r.0 r.1) r.2

pub parted_cut : (q : Point) (es : List Edge) → AreGood es → AreParted es → AreParted (cut_edges q es)
unfolding AreGood AreParted
parted_cut q es g p e f x h i d o u =
    let r = has_cut q es e h in
    let s = has_cut q es f i in
    let a = g r.0 r.1 in
    let b = g s.0 s.1 in
    let k = p r.0 s.0 x r.1 s.1 (sym (part_direction q r.0 e a r.2) ∙ d ∙ part_direction q s.0 f b s.2) (part_on q r.0 e x a r.2 o) (part_on q s.0 f x b s.2 u) in
    part_same q s.0 e f x b (subst (λ z. IsPart q z e) k r.2) s.2 o u

first_not_second : (e : Edge) (q : Point) → IsWithin e q → first_part e q ≡ second_part e q → ⊥
first_not_second e q w k = let a = w.after in let b = ap (λ z. along (direction e) z.start) k in omega (arith, ints, a, b)

cut_one_once : (q : Point) (e : Edge) → IsGood e → NoRepeats (cut_one q e)
unfolding NoRepeats Has
cut_one_once q e g = at (is_inside_edge e q) refl
  where
    at : (b : Bool) → is_inside_edge e q ≡ b → NoRepeats (cut_one q e)
    at true i = subst NoRepeats (sym (cut_true q e i)) (λ h. elim h [ inl k ↦ first_not_second e q (inside_within e q g i) (sym k) | inr k ↦ k ], (λ h. h, tt))
    at false i = subst NoRepeats (sym (cut_false q e i)) (λ h. h, tt)

pub parted_tail : (e : Edge) (es : List Edge) → AreParted (e ∷ es) → AreParted es
unfolding AreParted Has
parted_tail e es p d f x h i = p d f x (inr h) (inr i)

pub good_tail : (e : Edge) (es : List Edge) → AreGood (e ∷ es) → AreGood es
unfolding AreGood Has
good_tail e es g f h = g f (inr h)

pub once_cut : (q : Point) (es : List Edge) → AreGood es → AreParted es → NoRepeats es → NoRepeats (cut_edges q es)
unfolding cut_edges NoRepeats AreGood AreParted Has
once_cut q [] g p n = tt
once_cut q (e ∷ es) g p n =
    no_repeats_append (cut_one q e) (cut_edges q es) (cut_one_once q e (g e (inl refl))) (once_cut q es (good_tail e es g) (parted_tail e es p) n.1)
    (λ f h i.
    let a = one_part q e f h in
    let r = has_cut q es f i in
    let b = g e (inl refl) in
    let c = g r.0 (inr r.1) in
    let s = starts_on f (part_good q e f b a) in
    n.0 (subst (Has es) (sym (p e r.0 f.start (inl refl) (inr r.1) (sym (part_direction q e f b a) ∙ part_direction q r.0 f c r.2) (part_on q e f f.start b a s) (part_on q r.0 f f.start c r.2 s))) r.1))
