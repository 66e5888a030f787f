-- The level parts between corners that follow one another are the level parts of the boundary.
use Rattle.std.proofs.Common.{◌≡◌, refl, sym, subst, ap, ◌∙◌, ℕ, zero, suc, ◌+◌, ◌<◌, ◌⊎◌, inl, inr, arith, List, [], ◌∷◌, ◌++◌, length, get_or, Bool, true, false, not}
use Rattle.std.specs.Prelude.{◌≤ℤ◌, ◌<ℤ◌, ◌&&◌, ◌||◌, int_lt, int_le, if◌then◌else◌, AllPairs}
use Rattle.std.specs.List.Sorted.{IsPermutation}
use Rattle.std.proofs.lemmas.Int.{ints, by_lt_z}
use Rattle.std.proofs.lemmas.Bool.{false≢true}
use Rattle.std.proofs.lemmas.List.Kept.{AllPairs-cons}
use Rattle.std.proofs.lemmas.List.Sorted.{IsPermutation-sym}
use Rattle.grid_num.specs.declared.Point.{Point}
use Rattle.plane.specs.Covering.{Edge}
use Rattle.strips.specs.declared.Strip.{Strip}
use Rattle.strips.specs.Strips.{IsTrapezoid, IsStripBefore}
use Rattle.rings.specs.Boundary.{IsCorner, HasCopperAbove, HasCopperBelow, AreNeighbours, IsLevelPart, AreLevelParts, AreBoundary, side_edges}
use Rattle.rings.proofs.Lists.{Has, of_has, has_left, has_right, has_parts, has_permuted, all_of, all_at, NoRepeats, no_repeats_append, rising_of}
use Rattle.rings.proofs.Order.{point_same}
use Rattle.rings.proofs.Sides.{AreOrdered}
use Rattle.rings.proofs.Rows.{under_of, of_under, over_of, of_over, corners, corner_has, has_corner, ends}
use Rattle.rings.proofs.Levels.{part_below, part_above}
use Rattle.rings.proofs.Around.{right_of, from_left}
use Rattle.sheet_union.specs.Near.{IsSheet}
use Rattle.sheet_trace.specs.declared.edge.BoundaryEdge.{BoundaryEdge}
use Rattle.sheet_trace.specs.Edges.{edge_of, edges_in, left_side, right_side, strip_sides, edge_ends, ArePointsFromTop}
use Rattle.sheet_trace.specs.Inner.Levels.{begins_under, ends_over, has_below, has_above, level_between, level_parts}
use Rattle.sheet_trace.proofs.Found.{under_told, under_meets, over_told, over_meets, at_below, below_at, at_above, above_at}

pub ordered : (ss : List Strip) → IsSheet ss → AreOrdered ss
ordered ss o = record { shape = λ s h. all_at (λ s. IsTrapezoid s) ss s o.shapes h; order = rising_of IsStripBefore ss o.order }

-- ---- the code's edges and corners
edges_append : (es fs : List BoundaryEdge) → edges_in (es ++ fs) ≡ edges_in es ++ edges_in fs
unfolding edges_in
edges_append [] fs = refl
edges_append (e ∷ es) fs = ap (λ z. edge_of e ∷ z) (edges_append es fs)

sides_are : (ss : List Strip) → edges_in (strip_sides ss) ≡ side_edges ss
unfolding edges_in strip_sides side_edges
sides_are [] = refl
sides_are (s ∷ ss) = ap (λ z. edge_of (left_side s) ∷ edge_of (right_side s) ∷ z) (sides_are ss)

ends_are : (es : List BoundaryEdge) → edge_ends es ≡ ends (edges_in es)
unfolding edge_ends edges_in ends
ends_are [] = refl
ends_are (e ∷ es) = ap (λ z. e.start ∷ e.finish ∷ z) (ends_are es)

corners_are : (ss : List Strip) → edge_ends (strip_sides ss) ≡ corners ss
unfolding corners
corners_are ss = ends_are (strip_sides ss) ∙ ap ends (sides_are ss)

-- ---- copper beside a corner
pub index_has : {X : Type 0} (xs : List X) (k : ℕ) (d : X) → k < length xs → Has xs (get_or xs k d)
unfolding Has
index_has [] k d l = absurd (omega (arith, l))
index_has (x ∷ xs) zero d l = inl refl
index_has (x ∷ xs) (suc k) d l = inr (index_has xs k d (omega (arith, l)))

pub has_index : {X : Type 0} (xs : List X) (x : X) → Has xs x → (k : ℕ) × (k < length xs) × (get_or xs k x ≡ x)
has_index xs x h = of_has xs x h

below_is : (ss : List Strip) (a : Point) → AreOrdered ss → has_below a ss ≡ true → HasCopperBelow ss (right_of a)
unfolding right_of has_below
below_is [] a o h = absurd (false≢true h)
below_is (z ∷ zs) a o h =
    let ss = z ∷ zs in
    let f = at_below a ss z h in
    let s = get_or ss f.0 z in
    let q = under_told a s f.2 in
    let q0 = q.0 in let q1 = (q.1).0 in let q2 = (q.1).1 in
    of_under ss (right_of a) s o (record { one = index_has ss f.0 z f.1; row = omega (arith, ints, q0); from = omega (arith, ints, q1); to = omega (arith, ints, q2) })

is_below : (ss : List Strip) (a : Point) → AreOrdered ss → HasCopperBelow ss (right_of a) → has_below a ss ≡ true
unfolding right_of
is_below ss a o h =
    let u = under_of ss (right_of a) o h in
    let s = u.0 in
    let r = (u.1).row in let f = (u.1).from in let t = (u.1).to in
    let k = has_index ss s (u.1).one in
    below_at a ss k.0 s k.1 (subst (λ z. begins_under a z ≡ true) (sym k.2) (under_meets a s (omega (arith, ints, r)) (omega (arith, ints, f)) (omega (arith, ints, t))))

above_is : (ss : List Strip) (a : Point) → AreOrdered ss → has_above a ss ≡ true → HasCopperAbove ss (right_of a)
unfolding right_of has_above
above_is [] a o h = absurd (false≢true h)
above_is (z ∷ zs) a o h =
    let ss = z ∷ zs in
    let f = at_above a ss z h in
    let s = get_or ss f.0 z in
    let q = over_told a s f.2 in
    let q0 = q.0 in let q1 = (q.1).0 in let q2 = (q.1).1 in
    of_over ss (right_of a) s o (record { one = index_has ss f.0 z f.1; row = omega (arith, ints, q0); from = omega (arith, ints, q1); to = omega (arith, ints, q2) })

is_above : (ss : List Strip) (a : Point) → AreOrdered ss → HasCopperAbove ss (right_of a) → has_above a ss ≡ true
unfolding right_of
is_above ss a o h =
    let u = over_of ss (right_of a) o h in
    let s = u.0 in
    let r = (u.1).row in let f = (u.1).from in let t = (u.1).to in
    let k = has_index ss s (u.1).one in
    above_at a ss k.0 s k.1 (subst (λ z. ends_over a z ≡ true) (sym k.2) (over_meets a s (omega (arith, ints, r)) (omega (arith, ints, f)) (omega (arith, ints, t))))

-- ---- corners that follow one another
abbrev NotAfter : Point → Point → Type 0
NotAfter a b = (a.y <ℤ b.y) ⊎ ((a.y ≡ b.y) × (a.x ≤ℤ b.x))

unfoldable IsRising : List Point → Type 0
IsRising [] = Unit {0}
IsRising (a ∷ []) = Unit {0}
IsRising (a ∷ b ∷ cs) = NotAfter a b × IsRising (b ∷ cs)

not_after_on : (a b c : Point) → NotAfter a b → NotAfter b c → NotAfter a c
not_after_on a b c (inl l) (inl m) = inl (omega (arith, ints, l, m))
not_after_on a b c (inl l) (inr m) = let m0 = m.0 in inl (omega (arith, ints, l, m0))
not_after_on a b c (inr l) (inl m) = let l0 = l.0 in inl (omega (arith, ints, l0, m))
not_after_on a b c (inr l) (inr m) = let l1 = l.1 in let m1 = m.1 in inr (l.0 ∙ m.0, omega (arith, ints, l1, m1))

rising_from : (cs : List Point) → ArePointsFromTop cs → IsRising cs
unfolding IsRising
rising_from [] h = tt
rising_from (a ∷ []) h = tt
rising_from (a ∷ b ∷ cs) h = (
  h 0 a (omega arith),
  rising_from (b ∷ cs) (λ k d l. (
      let e : suc k + 1 ≡ suc (k + 1) = omega arith in
      subst (λ n. NotAfter (get_or (b ∷ cs) k d) (get_or (a ∷ b ∷ cs) n d)) e (h (suc k) d (omega (arith, l))))),
)

rising_tail : (a : Point) (cs : List Point) → IsRising (a ∷ cs) → IsRising cs
unfolding IsRising
rising_tail a [] r = tt
rising_tail a (b ∷ cs) r = r.1

first_not_after : (a : Point) (cs : List Point) (c : Point) → IsRising (a ∷ cs) → Has cs c → NotAfter a c
unfolding IsRising Has
first_not_after a [] c r h = absurd h
first_not_after a (b ∷ cs) c r (inl e) = subst (NotAfter a) e r.0
first_not_after a (b ∷ cs) c r (inr h) = not_after_on a b c r.0 (first_not_after b cs c r.1 h)

unfoldable IsFollowed : List Point → Point → Point → Type 0
IsFollowed [] a b = ⊥
IsFollowed (x ∷ []) a b = ⊥
IsFollowed (x ∷ y ∷ cs) a b = ((x ≡ a) × (y ≡ b)) ⊎ IsFollowed (y ∷ cs) a b

followed_has : (cs : List Point) (a b : Point) → IsFollowed cs a b → Has cs a × Has cs b
unfolding IsFollowed Has
followed_has [] a b f = absurd f
followed_has (x ∷ []) a b f = absurd f
followed_has (x ∷ y ∷ cs) a b (inl e) = (inl e.0, inr (inl e.1))
followed_has (x ∷ y ∷ cs) a b (inr f) = let h = followed_has (y ∷ cs) a b f in (inr h.0, inr h.1)

not_after_self : (a b : Point) → a ≡ b → NotAfter a b
not_after_self a b e = inr (ap (λ z. z.y) e, (let k = ap (λ z. z.x) e in omega (arith, ints, k)))

follows_order : (cs : List Point) (a b : Point) → IsRising cs → IsFollowed cs a b → NotAfter a b
unfolding IsFollowed IsRising
follows_order [] a b r f = absurd f
follows_order (x ∷ []) a b r f = absurd f
follows_order (x ∷ y ∷ cs) a b r (inl e) = subst (λ z. NotAfter z b) e.0 (subst (NotAfter x) e.1 r.0)
follows_order (x ∷ y ∷ cs) a b r (inr f) = follows_order (y ∷ cs) a b r.1 f

none_between : (cs : List Point) (a b c : Point) → IsRising cs → IsFollowed cs a b → Has cs c → NotAfter c a ⊎ NotAfter b c
unfolding IsFollowed Has
none_between [] a b c r f h = absurd f
none_between (x ∷ []) a b c r f h = absurd f
none_between (x ∷ y ∷ cs) a b c r (inl e) (inl k) = inl (not_after_self c a (sym k ∙ e.0))
none_between (x ∷ y ∷ cs) a b c r (inl e) (inr (inl k)) = inr (not_after_self b c (sym e.1 ∙ k))
none_between (x ∷ y ∷ cs) a b c r (inl e) (inr (inr h)) = inr (subst (λ z. NotAfter z c) e.1 (first_not_after y cs c (rising_tail x (y ∷ cs) r) h))
none_between (x ∷ y ∷ cs) a b c r (inr f) (inl k) = inl (subst (λ z. NotAfter z a) k (first_not_after x (y ∷ cs) a r (followed_has (y ∷ cs) a b f).0))
none_between (x ∷ y ∷ cs) a b c r (inr f) (inr h) = none_between (y ∷ cs) a b c (rising_tail x (y ∷ cs) r) f h

-- two corners of a row with none between them follow one another
followed : (cs : List Point) (a b : Point) → IsRising cs → Has cs a → Has cs b → a.y ≡ b.y → a.x <ℤ b.x → ((c : Point) → Has cs c → c.y ≡ a.y → a.x <ℤ c.x → c.x <ℤ b.x → ⊥) → IsFollowed cs a b
unfolding IsFollowed Has IsRising
followed [] a b r h i e l n = absurd h
followed (x ∷ []) a b r (inl h) (inl i) e l n = let k = ap (λ z. z.x) (sym h ∙ i) in absurd (omega (arith, ints, k, l))
followed (x ∷ []) a b r (inl h) (inr i) e l n = absurd i
followed (x ∷ []) a b r (inr h) i e l n = absurd h
followed (x ∷ y ∷ cs) a b r (inl h) (inl i) e l n = let k = ap (λ z. z.x) (sym h ∙ i) in absurd (omega (arith, ints, k, l))
followed (x ∷ y ∷ cs) a b r (inr h) (inl i) e l n = elim (first_not_after x (y ∷ cs) a r h) [
  | inl m ↦ (let k = ap (λ z. z.y) i in absurd (omega (arith, ints, k, m, e)))
  | inr m ↦ (let k = ap (λ z. z.x) i in let m1 = m.1 in absurd (omega (arith, ints, k, m1, l)))
]
followed (x ∷ y ∷ cs) a b r (inr h) (inr i) e l n = inr (followed (y ∷ cs) a b r.1 h i e l (λ c j. n c (inr j)))
followed (x ∷ y ∷ cs) a b r (inl h) (inr i) e l n = next (subst (λ z. NotAfter z y) h r.0) (to i) (λ k. followed (y ∷ cs) a b r.1 (inl k) i e l (λ c j. n c (inr j)))
  where
    to : (y ≡ b) ⊎ Has cs b → NotAfter y b
    to (inl k) = not_after_self y b k
    to (inr j) = first_not_after y cs b r.1 j

    row : NotAfter a y → NotAfter y b → (a.y ≡ y.y) × ((a.x ≤ℤ y.x) × (y.x ≤ℤ b.x))
    row (inl p) (inl q) = absurd (omega (arith, ints, p, q, e))
    row (inl p) (inr q) = let q0 = q.0 in absurd (omega (arith, ints, p, q0, e))
    row (inr p) (inl q) = let p0 = p.0 in absurd (omega (arith, ints, p0, q, e))
    row (inr p) (inr q) = (p.0, (p.1, q.1))

    next : NotAfter a y → NotAfter y b → (y ≡ a → IsFollowed (y ∷ cs) a b) → ((x ≡ a) × (y ≡ b)) ⊎ IsFollowed (y ∷ cs) a b
    next p q f =
        let w = row p q in
        let w0 = w.0 in let w1 = (w.1).0 in let w2 = (w.1).1 in
        by_lt_z {P = ((x ≡ a) × (y ≡ b)) ⊎ IsFollowed (y ∷ cs) a b} a.x y.x
        (λ s. by_lt_z {P = ((x ≡ a) × (y ≡ b)) ⊎ IsFollowed (y ∷ cs) a b} y.x b.x
        (λ t. absurd (n y (inr (inl refl)) (sym w0) s t))
        (λ t. inl (h, point_same y b (omega (arith, ints, t, w2)) (sym w0 ∙ e))))
        (λ s. inr (f (point_same y a (omega (arith, ints, s, w1)) (sym w0))))

-- ---- the part between two
abbrev pick : Bool → Bool → Bool → BoundaryEdge → BoundaryEdge → List BoundaryEdge
pick t u v x y = if t then [] else (if u && not v then x ∷ [] else (if v && not u then y ∷ [] else []))

record IsPicked (t u v : Bool) (x y e : BoundaryEdge) : Type 0 where
  open_ : t ≡ false
  which : ((u ≡ true) × ((v ≡ false) × (x ≡ e))) ⊎ ((u ≡ false) × ((v ≡ true) × (y ≡ e)))

picked : (t u v : Bool) (x y e : BoundaryEdge) → Has (pick t u v x y) e → IsPicked t u v x y e
unfolding Has
picked true u v x y e h = absurd h
picked false true true x y e h = absurd h
picked false false false x y e h = absurd h
picked false true false x y e (inl k) = record { open_ = refl; which = inl (refl, (refl, k)) }
picked false true false x y e (inr k) = absurd k
picked false false true x y e (inl k) = record { open_ = refl; which = inr (refl, (refl, k)) }
picked false false true x y e (inr k) = absurd k

picked_once : (t u v : Bool) (x y : BoundaryEdge) → NoRepeats (pick t u v x y)
unfolding NoRepeats Has
picked_once true u v x y = tt
picked_once false true true x y = tt
picked_once false false false x y = tt
picked_once false true false x y = (λ h. h, tt)
picked_once false false true x y = (λ h. h, tt)

abbrev rightward : Point → Point → BoundaryEdge
rightward a b = record { start = a; finish = b }

between_is : (ss : List Strip) (a b : Point) → level_between ss a b ≡ pick (int_lt a.y b.y || int_le b.x a.x) (has_below a ss) (has_above a ss) (rightward a b) (rightward b a)
unfolding level_between
between_is ss a b = refl

pick_same : (t u v t' u' v' : Bool) (x y : BoundaryEdge) → t ≡ t' → u ≡ u' → v ≡ v' → pick t u v x y ≡ pick t' u' v' x y
pick_same t u v t' u' v' x y p q r = ap (λ z. pick z u v x y) p ∙ (ap (λ z. pick t' z v x y) q ∙ ap (λ z. pick t' u' z x y) r)

test_told : (a b : Point) → (int_lt a.y b.y || int_le b.x a.x) ≡ false → (a.y <ℤ b.y → ⊥) × (a.x <ℤ b.x)
test_told a b h = (λ l. grind (arith, ints), grind (arith, ints))

test_not : (a b : Point) → a.y ≡ b.y → a.x <ℤ b.x → (int_lt a.y b.y || int_le b.x a.x) ≡ false
test_not a b e l = grind (arith, ints)

record IsBetween (ss : List Strip) (a b : Point) (e : BoundaryEdge) : Type 0 where
  apart : (a.y <ℤ b.y → ⊥) × (a.x <ℤ b.x)
  which : ((has_below a ss ≡ true) × ((has_above a ss ≡ false) × (rightward a b ≡ e))) ⊎ ((has_below a ss ≡ false) × ((has_above a ss ≡ true) × (rightward b a ≡ e)))

between_told : (ss : List Strip) (a b : Point) (e : BoundaryEdge) → Has (level_between ss a b) e → IsBetween ss a b e
between_told ss a b e h =
    let p = picked (int_lt a.y b.y || int_le b.x a.x) (has_below a ss) (has_above a ss) (rightward a b) (rightward b a) e (subst (λ z. Has z e) (between_is ss a b) h) in
    record { apart = test_told a b p.open_; which = p.which }

-- ---- all parts
record IsPart (ss : List Strip) (cs : List Point) (e : BoundaryEdge) : Type 0 where
  a : Point
  b : Point
  follows : IsFollowed cs a b
  is : Has (level_between ss a b) e

parts_told : (ss : List Strip) (cs : List Point) (e : BoundaryEdge) → Has (level_parts ss cs) e → IsPart ss cs e
unfolding level_parts Has IsFollowed
parts_told ss [] e h = absurd h
parts_told ss (x ∷ []) e h = absurd h
parts_told ss (x ∷ y ∷ cs) e h = elim (has_parts (level_between ss x y) (level_parts ss (y ∷ cs)) e h) [
  | inl i ↦ record { a = x; b = y; follows = inl (refl, refl); is = i }
  | inr i ↦ (let r = parts_told ss (y ∷ cs) e i in record { a = r.a; b = r.b; follows = inr r.follows; is = r.is })
]

told_parts : (ss : List Strip) (cs : List Point) (a b : Point) (e : BoundaryEdge) → IsFollowed cs a b → Has (level_between ss a b) e → Has (level_parts ss cs) e
unfolding level_parts IsFollowed
told_parts ss [] a b e f h = absurd f
told_parts ss (x ∷ []) a b e f h = absurd f
told_parts ss (x ∷ y ∷ cs) a b e (inl k) h =
    has_left (level_between ss x y) (level_parts ss (y ∷ cs)) e (subst (λ z. Has (level_between ss z y) e) (sym k.0) (subst (λ z. Has (level_between ss a z) e) (sym k.1) h))
told_parts ss (x ∷ y ∷ cs) a b e (inr f) h = has_right (level_between ss x y) (level_parts ss (y ∷ cs)) e (told_parts ss (y ∷ cs) a b e f h)

-- no part stands twice: their left ends rise
same_row : (a b : Point) → NotAfter a b → (a.y <ℤ b.y → ⊥) → a.y ≡ b.y
same_row a b (inl l) n = absurd (n l)
same_row a b (inr m) n = m.0

conflict : (x y a : Point) → x.y ≡ y.y → x.x <ℤ y.x → x ≡ a → NotAfter y a → ⊥
conflict x y a e l k (inl m) = let k0 = ap (λ z. z.y) k in omega (arith, ints, e, m, k0)
conflict x y a e l k (inr m) = let m1 = m.1 in let k0 = ap (λ z. z.x) k in omega (arith, ints, l, m1, k0)

crossed : (x y a b : Point) → x.x <ℤ y.x → a.x <ℤ b.x → x ≡ b → y ≡ a → ⊥
crossed x y a b l m p q = let p0 = ap (λ z. z.x) p in let q0 = ap (λ z. z.x) q in omega (arith, ints, l, m, p0, q0)

abbrev Which : List Strip → BoundaryEdge → Point → Point → Type 0
Which ss e a b = ((has_below a ss ≡ true) × ((has_above a ss ≡ false) × (rightward a b ≡ e))) ⊎ ((has_below a ss ≡ false) × ((has_above a ss ≡ true) × (rightward b a ≡ e)))

apart_by : (ss : List Strip) (e : BoundaryEdge) (x y a b : Point) → x.y ≡ y.y → x.x <ℤ y.x → a.x <ℤ b.x → NotAfter y a → Which ss e x y → Which ss e a b → ⊥
apart_by ss e x y a b r l m n (inl v) (inl w) = conflict x y a r l (ap (λ z. z.start) ((v.1).1 ∙ sym (w.1).1)) n
apart_by ss e x y a b r l m n (inl v) (inr w) = let k = (v.1).1 ∙ sym (w.1).1 in crossed x y a b l m (ap (λ z. z.start) k) (ap (λ z. z.finish) k)
apart_by ss e x y a b r l m n (inr v) (inl w) = let k = (v.1).1 ∙ sym (w.1).1 in crossed x y a b l m (ap (λ z. z.finish) k) (ap (λ z. z.start) k)
apart_by ss e x y a b r l m n (inr v) (inr w) = conflict x y a r l (ap (λ z. z.finish) ((v.1).1 ∙ sym (w.1).1)) n

apart_later : (ss : List Strip) (x y : Point) (cs : List Point) (e : BoundaryEdge) → IsRising (x ∷ y ∷ cs) → Has (level_between ss x y) e → Has (level_parts ss (y ∷ cs)) e → ⊥
unfolding Has IsRising
apart_later ss x y cs e r h i =
    let m = between_told ss x y e h in
    let p = parts_told ss (y ∷ cs) e i in
    let n = between_told ss p.a p.b e p.is in
    apart_by ss e x y p.a p.b (same_row x y r.0 (m.apart).0) (m.apart).1 (n.apart).1 (to p.a (followed_has (y ∷ cs) p.a p.b p.follows).0) m.which n.which
  where
    to : (a : Point) → (y ≡ a) ⊎ Has cs a → NotAfter y a
    to a (inl k) = not_after_self y a k
    to a (inr j) = first_not_after y cs a r.1 j

parts_once : (ss : List Strip) (cs : List Point) → IsRising cs → NoRepeats (level_parts ss cs)
unfolding level_parts NoRepeats
parts_once ss [] r = tt
parts_once ss (x ∷ []) r = tt
parts_once ss (x ∷ y ∷ cs) r = no_repeats_append (level_between ss x y) (level_parts ss (y ∷ cs))
    (subst NoRepeats (sym (between_is ss x y)) (picked_once (int_lt x.y y.y || int_le y.x x.x) (has_below x ss) (has_above x ss) (rightward x y) (rightward y x)))
    (parts_once ss (y ∷ cs) (rising_tail x (y ∷ cs) r))
    (λ e h i. apart_later ss x y cs e r h i)

-- ---- as edges
pub edges_has : (es : List BoundaryEdge) (e : BoundaryEdge) → Has es e → Has (edges_in es) (edge_of e)
unfolding edges_in Has
edges_has [] e h = absurd h
edges_has (x ∷ es) e (inl k) = inl (ap edge_of k)
edges_has (x ∷ es) e (inr h) = inr (edges_has es e h)

pub has_edges : (es : List BoundaryEdge) (f : Edge) → Has (edges_in es) f → (e : BoundaryEdge) × Has es e × (edge_of e ≡ f)
unfolding edges_in Has
has_edges [] f h = absurd h
has_edges (x ∷ es) f (inl k) = (x, inl refl, k)
has_edges (x ∷ es) f (inr h) = let r = has_edges es f h in (r.0, inr r.1, r.2)

back : (e : BoundaryEdge) (f : BoundaryEdge) → edge_of e ≡ edge_of f → e ≡ f
back e f k = ap (λ z. rightward z.start z.finish) k

edges_once : (es : List BoundaryEdge) → NoRepeats es → NoRepeats (edges_in es)
unfolding edges_in NoRepeats
edges_once [] n = tt
edges_once (x ∷ es) n = (λ h. (let r = has_edges es (edge_of x) h in n.0 (subst (Has es) (back r.0 x r.2) r.1)), edges_once es n.1)

pairs_of : (es : List Edge) → NoRepeats es → AllPairs (λ e f. e ≡ f → ⊥) es
unfolding NoRepeats
pairs_of [] n = λ i j d l m. absurd (omega (arith, m))
pairs_of (e ∷ es) n = AllPairs-cons (λ e f. e ≡ f → ⊥) e es (all_of (λ z. e ≡ z → ⊥) es (λ z h k. n.0 (subst (Has es) (sym k) h))) (pairs_of es n.1)

-- ---- they are the level parts
record AreCornersOf (ss : List Strip) (cs : List Point) : Type 0 where
  rising : IsRising cs
  each : (c : Point) → Has cs c → IsCorner ss c
  all : (c : Point) → IsCorner ss c → Has cs c

neighbours : (ss : List Strip) (cs : List Point) (a b : Point) → AreCornersOf ss cs → IsFollowed cs a b → (a.y <ℤ b.y → ⊥) → a.x <ℤ b.x → AreNeighbours ss a b
neighbours ss cs a b o f n l =
    let h = followed_has cs a b f in
    record {
      first = o.each a h.0;
      second = o.each b h.1;
      level = level;
      rising = l;
      next = λ c i y u v. elim (none_between cs a b c o.rising f (o.all c i)) [
        | inl m ↦ elim m [ inl p ↦ omega (arith, ints, p, y) | inr p ↦ (let q = p.1 in omega (arith, ints, q, u)) ]
        | inr m ↦ elim m [ inl p ↦ omega (arith, ints, p, y, level) | inr p ↦ (let q = p.1 in omega (arith, ints, q, v)) ]
      ];
    }
  where
    level : a.y ≡ b.y
    level = same_row a b (follows_order cs a b o.rising f) n

part_is : (ss : List Strip) (cs : List Point) (e : BoundaryEdge) → AreOrdered ss → AreCornersOf ss cs → Has (level_parts ss cs) e → IsLevelPart ss (edge_of e)
part_is ss cs e o c h =
    let p = parts_told ss cs e h in
    let t = between_told ss p.a p.b e p.is in
    let n = neighbours ss cs p.a p.b c p.follows (t.apart).0 (t.apart).1 in
    let j = from_left ss p.a p.b n in
    elim t.which [
      | inl w ↦ subst (λ z. IsLevelPart ss (edge_of z)) (w.1).1 (part_below ss p.a p.b (right_of p.a) o n j (below_is ss p.a o w.0) (λ v. false≢true (sym (w.1).0 ∙ is_above ss p.a o v)))
      | inr w ↦ subst (λ z. IsLevelPart ss (edge_of z)) (w.1).1 (part_above ss p.a p.b (right_of p.a) o n j (above_is ss p.a o (w.1).0) (λ v. false≢true (sym w.0 ∙ is_below ss p.a o v)))
    ]

not_true : (b : Bool) → (b ≡ true → ⊥) → b ≡ false
not_true true f = absurd (f refl)
not_true false f = refl

is_part : (ss : List Strip) (cs : List Point) (f : Edge) → AreOrdered ss → AreCornersOf ss cs → IsLevelPart ss f → Has (level_parts ss cs) (rightward f.start f.finish)
unfolding IsLevelPart Has
is_part ss cs f o c (inl (n, h)) =
    let a = f.start in
    let b = f.finish in
    let q = h (right_of a) (from_left ss a b n) in
    told_parts ss cs a b (rightward a b) (followed cs a b c.rising (c.all a n.first) (c.all b n.second) n.level n.rising (λ d i. n.next d (c.each d i)))
    (subst (λ z. Has z (rightward a b))
    (sym (between_is ss a b ∙ pick_same (int_lt a.y b.y || int_le b.x a.x) (has_below a ss) (has_above a ss) false true false (rightward a b) (rightward b a)
    (test_not a b n.level n.rising) (is_below ss a o q.0) (not_true (has_above a ss) (λ k. q.1 (above_is ss a o k)))))
    (inl refl))
is_part ss cs f o c (inr (n, h)) =
    let a = f.finish in
    let b = f.start in
    let q = h (right_of a) (from_left ss a b n) in
    told_parts ss cs a b (rightward b a) (followed cs a b c.rising (c.all a n.first) (c.all b n.second) n.level n.rising (λ d i. n.next d (c.each d i)))
    (subst (λ z. Has z (rightward b a))
    (sym (between_is ss a b ∙ pick_same (int_lt a.y b.y || int_le b.x a.x) (has_below a ss) (has_above a ss) false false true (rightward a b) (rightward b a)
    (test_not a b n.level n.rising) (not_true (has_below a ss) (λ k. q.1 (below_is ss a o k))) (is_above ss a o q.0)))
    (inl refl))

parts_are : (ss : List Strip) (cs : List Point) → AreOrdered ss → AreCornersOf ss cs → AreLevelParts ss (edges_in (level_parts ss cs))
parts_are ss cs o c =
    let ps = level_parts ss cs in
    record {
      each = all_of (IsLevelPart ss) (edges_in ps) (λ f h. (let r = has_edges ps f h in subst (IsLevelPart ss) r.2 (part_is ss cs r.0 o c r.1)));
      whole = λ f l. of_has (edges_in ps) f (edges_has ps (rightward f.start f.finish) (is_part ss cs f o c l));
      once = pairs_of (edges_in ps) (edges_once ps (parts_once ss cs c.rising));
    }

pub boundary_is : (ss : List Strip) (sides all : List BoundaryEdge) (cs : List Point) → IsSheet ss → sides ≡ strip_sides ss → IsPermutation (edge_ends sides) cs → ArePointsFromTop cs
    → all ≡ sides ++ level_parts ss cs → AreBoundary ss (edges_in all)
boundary_is ss sides all cs i s p t a =
    let o = ordered ss i in
    let ends = ap edge_ends s ∙ corners_are ss in
    let perm = subst (λ z. IsPermutation z cs) ends p in
    let c : AreCornersOf ss cs = record {
      rising = rising_from cs t;
      each = λ c h. has_corner ss c (has_permuted cs (corners ss) c (IsPermutation-sym (corners ss) cs perm) h);
      all = λ c k. has_permuted (corners ss) cs c perm (corner_has ss c k);
    } in
    record {
      parts = edges_in (level_parts ss cs);
      level = parts_are ss cs o c;
      all = ap edges_in a ∙ (edges_append sides (level_parts ss cs) ∙ ap (λ z. z ++ edges_in (level_parts ss cs)) (ap edges_in s ∙ sides_are ss));
    }
