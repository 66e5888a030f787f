-- Edges that are cut at a row: their parts, and where one goes on from them.
use Rattle.std.proofs.Common.{◌≡◌, refl, sym, subst, ap, ◌∙◌, ℕ, zero, suc, ◌<◌, ◌≤◌, ◌⊎◌, inl, inr, arith, List, [], ◌∷◌, ◌++◌, Bool, true, false}
use Rattle.std.specs.Prelude.{ℤ, ◌<ℤ◌, int_lt, ◌&&◌, ◌||◌}
use Rattle.std.specs.List.Sorted.{IsPermutation}
use Rattle.std.proofs.lemmas.Int.{ints, by_lt_z}
use Rattle.std.proofs.lemmas.Bool.{false≢true}
use Rattle.std.proofs.lemmas.List.{append_assoc}
use Rattle.std.proofs.lemmas.List.Sorted.{IsPermutation-refl, IsPermutation-cons, IsPermutation-trans, IsPermutation-sym, IsPermutation-middle}
use Rattle.plane.proofs.Counts.{less_true, less_false}
use Rattle.plane.specs.Covering.{Edge}
use Rattle.plane.specs.Edges.{IsOctilinear}
use Rattle.grid_num.specs.declared.Point.{Point}
use Rattle.strips.specs.Strips.{IsSloped}
use Rattle.strips.proofs.Slab.{IsAt}
use Rattle.rings.specs.Turning.{direction, turn_to, IsNextEdge}
use Rattle.rings.specs.Slits.{is_strictly_between, first_part, second_part}
use Rattle.rings.proofs.Lists.{Has, has_of, of_has, has_left, has_right, has_parts, has_split, NoRepeats, no_repeats_append}
use Rattle.rings.proofs.Lines.{line, along, GoesOn, IsGood, direction_low, good_octilinear}
use Rattle.rings.proofs.Turning.{AreApart}
use Rattle.rings.proofs.Unique.{AreSame}
use Rattle.rings.proofs.Parted.{AreGood, IsWithin, first_direction, second_direction}
use Rattle.same_points.specs.Edges.{is_crossed, crossing_place, begin_of, final_of, parts_of, parted}
use Rattle.same_points.proofs.Sides.{side_is, bool_cases}

-- ---- between
pub between_cases : (a z b : ℤ) → is_strictly_between a z b ≡ true → ((a <ℤ z) × (z <ℤ b)) ⊎ ((b <ℤ z) × (z <ℤ a))
between_cases a z b h = at (int_lt a z) (int_lt z b) (int_lt b z) (int_lt z a) refl refl refl refl h
  where
    lt : (u v : ℤ) → int_lt u v ≡ true → u <ℤ v
    lt u v e = by_lt_z {P = u <ℤ v} u v (λ l. l) (λ l. absurd (false≢true (sym (less_false u v l) ∙ e)))

    at : (p q r s : Bool) → int_lt a z ≡ p → int_lt z b ≡ q → int_lt b z ≡ r → int_lt z a ≡ s → ((p && q) || (r && s)) ≡ true → ((a <ℤ z) × (z <ℤ b)) ⊎ ((b <ℤ z) × (z <ℤ a))
    at true true r s e f g i h = inl (lt a z e, lt z b f)
    at true false true true e f g i h = inr (lt b z g, lt z a i)
    at true false true false e f g i h = absurd (false≢true h)
    at true false false s e f g i h = absurd (false≢true h)
    at false q true true e f g i h = inr (lt b z g, lt z a i)
    at false q true false e f g i h = absurd (false≢true h)
    at false q false s e f g i h = absurd (false≢true h)

pub up_between : (a z b : ℤ) → a <ℤ z → z <ℤ b → is_strictly_between a z b ≡ true
up_between a z b l m = rw (less_true a z l) (rw (less_true z b m) refl)

pub down_between : (a z b : ℤ) → b <ℤ z → z <ℤ a → is_strictly_between a z b ≡ true
down_between a z b l m = rw (less_false a z (omega (arith, ints, m))) (rw (less_true b z l) (rw (less_true z a m) refl))

-- ---- the crossing_place where an edge crosses a row is strictly inside
sloped_at : (e : Edge) → IsOctilinear e → (e.start.y ≡ e.finish.y → ⊥) → IsSloped e.start.y e.finish.y e.start.x e.finish.x
unfolding IsOctilinear
sloped_at e (inl k) n = absurd (n k)
sloped_at e (inr (inl k)) n = inl (sym k)
sloped_at e (inr (inr (inl k))) n = inr (inl k)
sloped_at e (inr (inr (inr k))) n = inr (inr (omega (arith, ints, k)))

Rows : ℤ → Edge → Type 0
Rows r e = ((e.start.y <ℤ r) × (r <ℤ e.finish.y)) ⊎ ((e.finish.y <ℤ r) × (r <ℤ e.start.y))

within_at : (d : ℕ) → d < 8 → (e : Edge) (q : Point) → GoesOn d e → IsAt e.start.y e.finish.y e.start.x e.finish.x q.y q.x → Rows q.y e
    → (line d q ≡ line d e.start) × (along d e.start <ℤ along d q) × (along d q <ℤ along d e.finish)
unfolding line along Rows
within_at zero h e q g s m = let l = g.line in let o = g.on in (omega (arith, ints, l, o, s, m), omega (arith, ints, l, o, s, m), omega (arith, ints, l, o, s, m))
within_at (suc zero) h e q g s m = let l = g.line in let o = g.on in (omega (arith, ints, l, o, s, m), omega (arith, ints, l, o, s, m), omega (arith, ints, l, o, s, m))
within_at (suc (suc zero)) h e q g s m = let l = g.line in let o = g.on in (omega (arith, ints, l, o, s, m), omega (arith, ints, l, o, s, m), omega (arith, ints, l, o, s, m))
within_at (suc (suc (suc zero))) h e q g s m = let l = g.line in let o = g.on in (omega (arith, ints, l, o, s, m), omega (arith, ints, l, o, s, m), omega (arith, ints, l, o, s, m))
within_at (suc (suc (suc (suc zero)))) h e q g s m = let l = g.line in let o = g.on in (omega (arith, ints, l, o, s, m), omega (arith, ints, l, o, s, m), omega (arith, ints, l, o, s, m))
within_at (suc (suc (suc (suc (suc zero))))) h e q g s m = let l = g.line in let o = g.on in (omega (arith, ints, l, o, s, m), omega (arith, ints, l, o, s, m), omega (arith, ints, l, o, s, m))
within_at (suc (suc (suc (suc (suc (suc zero)))))) h e q g s m = let l = g.line in let o = g.on in (omega (arith, ints, l, o, s, m), omega (arith, ints, l, o, s, m), omega (arith, ints, l, o, s, m))
within_at (suc (suc (suc (suc (suc (suc (suc zero))))))) h e q g s m = let l = g.line in let o = g.on in (omega (arith, ints, l, o, s, m), omega (arith, ints, l, o, s, m), omega (arith, ints, l, o, s, m))
within_at (suc (suc (suc (suc (suc (suc (suc (suc d)))))))) h e q g s m = absurd (omega (arith, h))

pub place_at : (r : ℤ) (e : Edge) → IsGood e → is_crossed r e ≡ true → IsAt e.start.y e.finish.y e.start.x e.finish.x r (crossing_place r e).x
unfolding crossing_place
place_at r e g h =
    let m = between_cases e.start.y r e.finish.y h in
    side_is e.start.y e.finish.y e.start.x e.finish.x r
    (elim m [ inl k ↦ inl (let a = k.0 in let b = k.1 in omega (arith, ints, a, b)) | inr k ↦ inr (let a = k.0 in let b = k.1 in omega (arith, ints, a, b)) ])
    (sloped_at e (good_octilinear e g) (λ k. omega (arith, ints, m, k)))

pub crossed_within : (r : ℤ) (e : Edge) → IsGood e → is_crossed r e ≡ true → IsWithin e (crossing_place r e)
unfolding Rows crossing_place
crossed_within r e g h =
    let w = within_at (direction e) (direction_low e) e (crossing_place r e) g (place_at r e g h) (between_cases e.start.y r e.finish.y h) in
    record { line = w.0; after = w.1; before = w.2 }

-- ---- the two parts
pub first_true : (r : ℤ) (e : Edge) → is_crossed r e ≡ true → begin_of r e ≡ first_part e (crossing_place r e)
unfolding begin_of
first_true r e h = rw h refl

pub first_false : (r : ℤ) (e : Edge) → is_crossed r e ≡ false → begin_of r e ≡ e
unfolding begin_of
first_false r e h = rw h refl

pub final_true : (r : ℤ) (e : Edge) → is_crossed r e ≡ true → final_of r e ≡ second_part e (crossing_place r e)
unfolding final_of
final_true r e h = rw h refl

pub final_false : (r : ℤ) (e : Edge) → is_crossed r e ≡ false → final_of r e ≡ e
unfolding final_of
final_false r e h = rw h refl

pub parts_true : (r : ℤ) (e : Edge) → is_crossed r e ≡ true → parts_of r e ≡ begin_of r e ∷ final_of r e ∷ []
unfolding parts_of
parts_true r e h = rw h refl

pub parts_false : (r : ℤ) (e : Edge) → is_crossed r e ≡ false → parts_of r e ≡ e ∷ []
unfolding parts_of
parts_false r e h = rw h refl

pub first_start : (r : ℤ) (e : Edge) → (begin_of r e).start ≡ e.start
first_start r e = elim (bool_cases (is_crossed r e)) [ inl h ↦ ap (λ z. z.start) (first_true r e h) | inr h ↦ ap (λ z. z.start) (first_false r e h) ]

pub final_finish : (r : ℤ) (e : Edge) → (final_of r e).finish ≡ e.finish
final_finish r e = elim (bool_cases (is_crossed r e)) [ inl h ↦ ap (λ z. z.finish) (final_true r e h) | inr h ↦ ap (λ z. z.finish) (final_false r e h) ]

pub first_way : (r : ℤ) (e : Edge) → IsGood e → direction (begin_of r e) ≡ direction e
first_way r e g = elim (bool_cases (is_crossed r e)) [
  | inl h ↦ ap direction (first_true r e h) ∙ first_direction e (crossing_place r e) (crossed_within r e g h)
  | inr h ↦ ap direction (first_false r e h)
]

pub final_way : (r : ℤ) (e : Edge) → IsGood e → direction (final_of r e) ≡ direction e
final_way r e g = elim (bool_cases (is_crossed r e)) [
  | inl h ↦ ap direction (final_true r e h) ∙ second_direction e (crossing_place r e) g (crossed_within r e g h)
  | inr h ↦ ap direction (final_false r e h)
]

-- ---- the edges of the cut list
pub data IsCutOf (r : ℤ) (es : List Edge) (g : Edge) : Type 0 where
  First : (e : Edge) → Has es e → g ≡ begin_of r e → IsCutOf r es g
  Final : (e : Edge) → Has es e → is_crossed r e ≡ true → g ≡ final_of r e → IsCutOf r es g

more_cut : (r : ℤ) (e : Edge) (es : List Edge) (g : Edge) → IsCutOf r es g → IsCutOf r (e ∷ es) g
unfolding Has
more_cut r e es g (First f h k) = First f (inr h) k
more_cut r e es g (Final f h c k) = Final f (inr h) c k

pub has_parted : (r : ℤ) (es : List Edge) (g : Edge) → Has (parted r es) g → IsCutOf r es g
unfolding parted Has
has_parted r [] g h = absurd h
has_parted r (e ∷ es) g h = elim (has_parts (parts_of r e) (parted r es) g h) [
  | inl i ↦ elim (bool_cases (is_crossed r e)) [
    | inl c ↦ elim (subst (λ zs. Has zs g) (parts_true r e c) i) [ inl k ↦ First e (inl refl) (sym k) | inr k ↦ elim k [ inl k ↦ Final e (inl refl) c (sym k) | inr k ↦ absurd k ] ]
    | inr c ↦ elim (subst (λ zs. Has zs g) (parts_false r e c) i) [ inl k ↦ First e (inl refl) (sym k ∙ sym (first_false r e c)) | inr k ↦ absurd k ]
  ]
  | inr i ↦ more_cut r e es g (has_parted r es g i)
]

one_first : (r : ℤ) (e : Edge) → Has (parts_of r e) (begin_of r e)
unfolding Has
one_first r e = elim (bool_cases (is_crossed r e)) [
  | inl c ↦ subst (λ zs. Has zs (begin_of r e)) (sym (parts_true r e c)) (inl refl)
  | inr c ↦ subst (λ zs. Has zs (begin_of r e)) (sym (parts_false r e c)) (inl (sym (first_false r e c)))
]

one_final : (r : ℤ) (e : Edge) → Has (parts_of r e) (final_of r e)
unfolding Has
one_final r e = elim (bool_cases (is_crossed r e)) [
  | inl c ↦ subst (λ zs. Has zs (final_of r e)) (sym (parts_true r e c)) (inr (inl refl))
  | inr c ↦ subst (λ zs. Has zs (final_of r e)) (sym (parts_false r e c)) (inl (sym (final_false r e c)))
]

pub first_has : (r : ℤ) (es : List Edge) (e : Edge) → Has es e → Has (parted r es) (begin_of r e)
unfolding parted Has
first_has r [] e h = absurd h
first_has r (d ∷ es) e (inl k) = has_left (parts_of r d) (parted r es) (begin_of r e) (subst (λ z. Has (parts_of r d) (begin_of r z)) k (one_first r d))
first_has r (d ∷ es) e (inr h) = has_right (parts_of r d) (parted r es) (begin_of r e) (first_has r es e h)

pub final_has : (r : ℤ) (es : List Edge) (e : Edge) → Has es e → Has (parted r es) (final_of r e)
unfolding parted Has
final_has r [] e h = absurd h
final_has r (d ∷ es) e (inl k) = has_left (parts_of r d) (parted r es) (final_of r e) (subst (λ z. Has (parts_of r d) (final_of r z)) k (one_final r d))
final_has r (d ∷ es) e (inr h) = has_right (parts_of r d) (parted r es) (final_of r e) (final_has r es e h)

pub cut_has : (r : ℤ) (es : List Edge) (g : Edge) → IsCutOf r es g → Has (parted r es) g
cut_has r es g (First e h k) = subst (Has (parted r es)) (sym k) (first_has r es e h)
cut_has r es g (Final e h c k) = subst (Has (parted r es)) (sym k) (final_has r es e h)

pub parted_append : (r : ℤ) (xs ys : List Edge) → parted r (xs ++ ys) ≡ parted r xs ++ parted r ys
unfolding parted
parted_append r [] ys = refl
parted_append r (x ∷ xs) ys = ap (λ zs. parts_of r x ++ zs) (parted_append r xs ys) ∙ sym (append_assoc (parts_of r x) (parted r xs) (parted r ys))

-- ---- edges that may be cut at a row: where one crosses it none begins in it, and no two cross it at one point
pub record IsCuttable (r : ℤ) (es : List Edge) : Type 0 where
  pub good : AreGood es
  pub apart : AreApart es
  pub clear : (e f : Edge) → Has es e → Has es f → is_crossed r e ≡ true → f.start.y ≡ r → ⊥
  pub places : (e f : Edge) → Has es e → Has es f → is_crossed r e ≡ true → is_crossed r f ≡ true → crossing_place r e ≡ crossing_place r f → e ≡ f

pub good_of : (r : ℤ) (es : List Edge) → IsCuttable r es → (e : Edge) → Has es e → IsGood e
unfolding AreGood
good_of r es c e h = c.good e h

final_starts : (r : ℤ) (e : Edge) → is_crossed r e ≡ true → (final_of r e).start ≡ crossing_place r e
final_starts r e h = ap (λ z. z.start) (final_true r e h)

pub place_row : (r : ℤ) (e : Edge) → (crossing_place r e).y ≡ r
unfolding crossing_place
place_row r e = refl

-- a first part begins no crossing_place of a crossing
not_begun : (r : ℤ) (es : List Edge) → IsCuttable r es → (e f : Edge) → Has es e → Has es f → is_crossed r e ≡ true → (begin_of r f).start ≡ crossing_place r e → ⊥
unfolding crossing_place
not_begun r es c e f h i k s = c.clear e f h i k (ap (λ z. z.y) (sym (first_start r f) ∙ s))

turn_same : (e f : Edge) (c d : ℕ) → direction e ≡ direction f → c ≡ d → turn_to e c ≡ turn_to f d
unfolding turn_to
turn_same e f c d k l = rw k (rw l refl)

turn_on : (e : Edge) (d : ℕ) → direction e ≡ d → turn_to e d ≡ 4
unfolding turn_to
turn_on e d k = let l = direction_low e in omega (arith, l, k)

-- from the end of an edge one goes on to the next edge's first part
pub next_first : (r : ℤ) (es : List Edge) → IsCuttable r es → (e f : Edge) → Has es e → IsNextEdge es e f → IsNextEdge (parted r es) (final_of r e) (begin_of r f)
next_first r es c e f h n =
    let i = has_of es f n.one in
    let ge = good_of r es c e h in
    record {
      one = of_has (parted r es) (begin_of r f) (first_has r es f i);
      joins = first_start r f ∙ n.joins ∙ sym (final_finish r e);
      first = λ g k j. least g (has_parted r es g (has_of (parted r es) g k)) (j ∙ final_finish r e);
    }
  where
    least : (g : Edge) → IsCutOf r es g → g.start ≡ e.finish → turn_to (final_of r e) (direction (begin_of r f)) ≤ turn_to (final_of r e) (direction g)
    least g (First d m k) j =
        let ge = good_of r es c e h in
        let a = n.first d (of_has es d m) (sym (first_start r d) ∙ sym (ap (λ z. z.start) k) ∙ j) in
        let b = turn_same (final_of r e) e (direction (begin_of r f)) (direction f) (final_way r e ge) (first_way r f (good_of r es c f (has_of es f n.one))) in
        let q = turn_same (final_of r e) e (direction g) (direction d) (final_way r e ge) (ap direction k ∙ first_way r d (good_of r es c d m)) in
        omega (arith, a, b, q)
    least g (Final d m x k) j =
        absurd (c.clear d f m (has_of es f n.one) x (ap (λ z. z.y) (n.joins ∙ sym j ∙ ap (λ z. z.start) k ∙ final_starts r d x) ∙ place_row r d))

-- and from the first part of an edge to its second
pub next_within : (r : ℤ) (es : List Edge) → IsCuttable r es → (e : Edge) → Has es e → is_crossed r e ≡ true → IsNextEdge (parted r es) (begin_of r e) (final_of r e)
next_within r es c e h x =
    record {
      one = of_has (parted r es) (final_of r e) (final_has r es e h);
      joins = final_starts r e x ∙ sym (ap (λ z. z.finish) (first_true r e x));
      first = λ g k j. least g (has_parted r es g (has_of (parted r es) g k)) (j ∙ ap (λ z. z.finish) (first_true r e x));
    }
  where
    least : (g : Edge) → IsCutOf r es g → g.start ≡ crossing_place r e → turn_to (begin_of r e) (direction (final_of r e)) ≤ turn_to (begin_of r e) (direction g)
    least g (First d m k) j = absurd (not_begun r es c e d h m x (sym (ap (λ z. z.start) k) ∙ j))
    least g (Final d m y k) j =
        let s = c.places d e m h y x (sym (final_starts r d y) ∙ sym (ap (λ z. z.start) k) ∙ j) in
        let q = ap (λ z. turn_to (begin_of r e) (direction z)) (k ∙ ap (final_of r) s) in
        omega (arith, q)

-- ---- none stands twice
first_not_final : (r : ℤ) (e : Edge) → IsGood e → is_crossed r e ≡ true → begin_of r e ≡ final_of r e → ⊥
first_not_final r e g h k =
    let a = (crossed_within r e g h).after in
    let b = ap (λ z. along (direction e) z.start) (sym (first_true r e h) ∙ k ∙ final_true r e h) in
    omega (arith, ints, a, b)

parts_once : (r : ℤ) (e : Edge) → IsGood e → NoRepeats (parts_of r e)
unfolding NoRepeats Has
parts_once r e g = elim (bool_cases (is_crossed r e)) [
  | inl h ↦ subst NoRepeats (sym (parts_true r e h)) (λ i. elim i [ inl k ↦ first_not_final r e g h (sym k) | inr k ↦ k ], (λ i. i, tt))
  | inr h ↦ subst NoRepeats (sym (parts_false r e h)) (λ i. i, tt)
]

pub cut_same : (r : ℤ) (es : List Edge) → IsCuttable r es → (d e g : Edge) → Has es d → Has es e → IsCutOf r (d ∷ []) g → IsCutOf r (e ∷ []) g → d ≡ e
unfolding Has AreApart
cut_same r es c d e g h i (First a x k) (First b y l) =
    let k' = (subst (λ z. g ≡ begin_of r z) (sym (only d a x)) k) in
    let l' = (subst (λ z. g ≡ begin_of r z) (sym (only e b y)) l) in
    same d e h i (sym k' ∙ l')
  where
    only : (p q : Edge) → Has (p ∷ []) q → p ≡ q
    only p q (inl k) = k
    only p q (inr k) = absurd k

    same : (d e : Edge) → Has es d → Has es e → begin_of r d ≡ begin_of r e → d ≡ e
    same d e h i k =
        c.apart d e h i (sym (first_start r d) ∙ ap (λ z. z.start) k ∙ first_start r e)
        (sym (first_way r d (good_of r es c d h)) ∙ ap direction k ∙ first_way r e (good_of r es c e i))
cut_same r es c d e g h i (First a (inl x) k) (Final b (inl y) m l) =
    absurd (not_begun r es c b a (subst (Has es) y i) (subst (Has es) x h) m (ap (λ z. z.start) (sym k ∙ l) ∙ final_starts r b m))
cut_same r es c d e g h i (First a (inl x) k) (Final b (inr y) m l) = absurd y
cut_same r es c d e g h i (First a (inr x) k) (Final b y m l) = absurd x
cut_same r es c d e g h i (Final a (inl x) m k) (First b (inl y) l) =
    absurd (not_begun r es c a b (subst (Has es) x h) (subst (Has es) y i) m (ap (λ z. z.start) (sym l ∙ k) ∙ final_starts r a m))
cut_same r es c d e g h i (Final a (inl x) m k) (First b (inr y) l) = absurd y
cut_same r es c d e g h i (Final a (inr x) m k) (First b y l) = absurd x
cut_same r es c d e g h i (Final a (inl x) m k) (Final b (inl y) n l) =
    x ∙ c.places a b (subst (Has es) x h) (subst (Has es) y i) m n (sym (final_starts r a m) ∙ ap (λ z. z.start) (sym k ∙ l) ∙ final_starts r b n) ∙ sym y
cut_same r es c d e g h i (Final a (inl x) m k) (Final b (inr y) n l) = absurd y
cut_same r es c d e g h i (Final a (inr x) m k) (Final b y n l) = absurd x

alone : (r : ℤ) (es : List Edge) (g : Edge) → IsCutOf r es g → (e : Edge) × Has es e × IsCutOf r (e ∷ []) g
unfolding Has
alone r es g (First e h k) = (e, h, First e (inl refl) k)
alone r es g (Final e h c k) = (e, h, Final e (inl refl) c k)

parts_cut : (r : ℤ) (e g : Edge) → Has (parts_of r e) g → IsCutOf r (e ∷ []) g
unfolding parted
parts_cut r e g h = has_parted r (e ∷ []) g (has_left (parts_of r e) [] g h)

pub parted_once : (r : ℤ) (es xs : List Edge) → IsCuttable r es → ((e : Edge) → Has xs e → Has es e) → NoRepeats xs → NoRepeats (parted r xs)
unfolding parted NoRepeats Has
parted_once r es [] c s n = tt
parted_once r es (e ∷ xs) c s n =
    no_repeats_append (parts_of r e) (parted r xs) (parts_once r e (good_of r es c e (s e (inl refl)))) (parted_once r es xs c (λ d h. s d (inr h)) n.1)
    (λ g h i.
    let a = alone r xs g (has_parted r xs g i) in
    n.0 (subst (Has xs) (sym (cut_same r es c e a.0 g (s e (inl refl)) (s a.0 (inr a.1)) (parts_cut r e g h) a.2)) a.1))

-- ---- lists of the same edges, none twice, are one another in another order
pub permuted_of : (xs ys : List Edge) → NoRepeats xs → NoRepeats ys → AreSame xs ys → IsPermutation xs ys
unfolding NoRepeats Has
permuted_of [] [] n m s = IsPermutation-refl []
permuted_of [] (y ∷ ys) n m s = absurd (s.back y (inl refl))
permuted_of (x ∷ xs) ys n m s =
    let p = has_split ys x (s.there x (inl refl)) in
    let q = IsPermutation-middle p.0 x p.1 in
    let k = split_once p.0 x p.1 (subst NoRepeats p.2 m) in
    subst (IsPermutation (x ∷ xs)) (sym p.2)
    (IsPermutation-trans (x ∷ xs) (x ∷ (p.0 ++ p.1)) (p.0 ++ x ∷ p.1)
    (IsPermutation-cons x xs (p.0 ++ p.1)
    (permuted_of xs (p.0 ++ p.1) n.1 k.1
    (record {
      there = λ e h. elim (split_cases p.0 x p.1 e (subst (λ zs. Has zs e) p.2 (s.there e (inr h)))) [ inl j ↦ absurd (n.0 (subst (Has xs) j h)) | inr j ↦ j ];
      back = λ e h. elim (s.back e (subst (λ zs. Has zs e) (sym p.2) (split_has p.0 x p.1 e h))) [ inl j ↦ absurd (k.0 (subst (Has (p.0 ++ p.1)) (sym j) h)) | inr j ↦ j ];
    })))
    (IsPermutation-sym (p.0 ++ x ∷ p.1) (x ∷ (p.0 ++ p.1)) q))
  where
    split_cases : (us : List Edge) (x : Edge) (vs : List Edge) (e : Edge) → Has (us ++ x ∷ vs) e → (e ≡ x) ⊎ Has (us ++ vs) e
    split_cases us x vs e h = elim (has_parts us (x ∷ vs) e h) [
      | inl i ↦ inr (has_left us vs e i)
      | inr i ↦ elim i [ inl k ↦ inl (sym k) | inr i ↦ inr (has_right us vs e i) ]
    ]

    split_has : (us : List Edge) (x : Edge) (vs : List Edge) (e : Edge) → Has (us ++ vs) e → Has (us ++ x ∷ vs) e
    split_has us x vs e h = elim (has_parts us vs e h) [ inl i ↦ has_left us (x ∷ vs) e i | inr i ↦ has_right us (x ∷ vs) e (inr i) ]

    split_once : (us : List Edge) (x : Edge) (vs : List Edge) → NoRepeats (us ++ x ∷ vs) → (Has (us ++ vs) x → ⊥) × NoRepeats (us ++ vs)
    split_once [] x vs n = (n.0, n.1)
    split_once (u ∷ us) x vs n =
        let k = split_once us x vs n.1 in (
          (λ h. elim h [ inl j ↦ n.0 (has_right us (x ∷ vs) u (inl (sym j))) | inr j ↦ k.0 j ]),
          ((λ h. n.0 (split_has us x vs u h)), k.1),
        )
