-- The edges that meet a corner, by the sectors around it: an edge comes in where copper begins, and goes out where it ends.
use Rattle.std.proofs.Common.{◌≡◌, refl, sym, subst, ap, ◌∙◌, ℕ, zero, suc, ◌<◌, ◌+◌, ◌%◌, ◌⊎◌, inl, inr, arith, lit≤, List}
use Rattle.std.specs.Prelude.{pos, negsuc, ◌+ℤ◌, ◌-ℤ◌, ◌*ℤ◌, ◌<ℤ◌, ◌≤ℤ◌, ◌↔◌}
use Rattle.std.proofs.lemmas.Int.{ints, by_lt_z}
use Rattle.plane.specs.Plane.{PlanePoint}
use Rattle.grid_num.specs.declared.Point.{Point}
use Rattle.plane.specs.Covering.{Edge}
use Rattle.strips.specs.declared.Strip.{Strip}
use Rattle.strips.specs.Strips.{IsTrapezoid}
use Rattle.rings.specs.Turning.{direction}
use Rattle.rings.specs.Boundary.{left_edge, right_edge, IsCorner, HasCopperAbove, HasCopperBelow, IsStrictlyFrom, AreNeighbours, IsLevelPart}
use Rattle.rings.proofs.Lists.{Has}
use Rattle.rings.proofs.Order.{point_same}
use Rattle.rings.proofs.Lines.{direction_low}
use Rattle.rings.proofs.Sides.{AreOrdered, LeftAt, RightAt, left_is, right_is}
use Rattle.rings.proofs.Boundary.{Left, Right, IsBound, Side, Level, rightward, leftward}
use Rattle.rings.proofs.Rows.{IsUnder, IsOver, under_of, of_under, over_of, of_over, top_right, bottom_left, NoCorner, gap}
use Rattle.rings.proofs.Levels.{part_below, part_above}
use Rattle.rings.proofs.Sectors.{IsBelowAlong, IsAboveAlong, IsSector, HasCopper, left_up_copper, left_up_none, right_down_copper, right_down_none, left_from_copper, left_from_none, right_from_copper, right_from_none}

-- half a unit to the left and to the right of v
unfoldable pub left_of : Point → PlanePoint
left_of v = record { x = pos 2 *ℤ v.x -ℤ pos 1; y = pos 2 *ℤ v.y; scale = 2; positive = lit≤ tt }

unfoldable pub right_of : Point → PlanePoint
right_of v = record { x = pos 2 *ℤ v.x +ℤ pos 1; y = pos 2 *ℤ v.y; scale = 2; positive = lit≤ tt }

-- ---- the sectors next to the row
under_left : (ss : List Strip) (s : Strip) (v : Point) → AreOrdered ss → Has ss s → IsSector 4 s v ↔ IsUnder ss (left_of v) s
unfolding IsSector left_of
under_left ss s v o h =
    let t = o.shape s h in let d = t.down in let l = t.left in let r = t.right in (
      λ i. (let ir = i.row in let il = i.left in let ie = i.right in record { one = h; row = omega (arith, ints, ir); from = omega (arith, ints, il, l, d); to = omega (arith, ints, ie) }),
      λ u. (let ur = u.row in let uf = u.from in let ut = u.to in record {
        row = omega (arith, ints, ur);
        left = inl (omega (arith, ints, uf));
        right = by_lt_z {P = (v.x <ℤ s.right) ⊎ ((s.right ≡ v.x) × ((negsuc 3 *ℤ (s.bottom -ℤ s.top)) ≤ℤ (pos 2 *ℤ (s.right_end -ℤ s.right))))} v.x s.right (λ k. inl k) (λ k. inr (omega (arith, ints, k, ut), omega (arith, ints, r, d)));
      }),
    )

under_right : (ss : List Strip) (s : Strip) (v : Point) → AreOrdered ss → Has ss s → IsSector 7 s v ↔ IsUnder ss (right_of v) s
unfolding IsSector right_of
under_right ss s v o h =
    let t = o.shape s h in let d = t.down in let l = t.left in let r = t.right in (
      λ i. (let ir = i.row in let il = i.left in let ie = i.right in record { one = h; row = omega (arith, ints, ir); from = omega (arith, ints, il); to = omega (arith, ints, ie, r, d) }),
      λ u. (let ur = u.row in let uf = u.from in let ut = u.to in record {
        row = omega (arith, ints, ur);
        left = by_lt_z {P = (s.left <ℤ v.x) ⊎ ((s.left ≡ v.x) × ((pos 2 *ℤ (s.left_end -ℤ s.left)) ≤ℤ (pos 4 *ℤ (s.bottom -ℤ s.top))))} s.left v.x (λ k. inl k) (λ k. inr (omega (arith, ints, k, uf), omega (arith, ints, l, d)));
        right = inl (omega (arith, ints, ut));
      }),
    )

pub over_left : (ss : List Strip) (s : Strip) (v : Point) → AreOrdered ss → Has ss s → IsSector 3 s v ↔ IsOver ss (left_of v) s
unfolding IsSector left_of
over_left ss s v o h =
    let t = o.shape s h in let d = t.down in let l = t.left in let r = t.right in (
      λ i. (let ir = i.row in let il = i.left in let ie = i.right in record { one = h; row = omega (arith, ints, ir); from = omega (arith, ints, il, l, d); to = omega (arith, ints, ie) }),
      λ u. (let ur = u.row in let uf = u.from in let ut = u.to in record {
        row = omega (arith, ints, ur);
        left = inl (omega (arith, ints, uf));
        right = by_lt_z {P = (v.x <ℤ s.right_end) ⊎ ((s.right_end ≡ v.x) × ((negsuc 3 *ℤ (s.bottom -ℤ s.top)) ≤ℤ (pos 2 *ℤ (s.right -ℤ s.right_end))))} v.x s.right_end (λ k. inl k) (λ k. inr (omega (arith, ints, k, ut), omega (arith, ints, r, d)));
      }),
    )

pub over_right : (ss : List Strip) (s : Strip) (v : Point) → AreOrdered ss → Has ss s → IsSector 0 s v ↔ IsOver ss (right_of v) s
unfolding IsSector right_of
over_right ss s v o h =
    let t = o.shape s h in let d = t.down in let l = t.left in let r = t.right in (
      λ i. (let ir = i.row in let il = i.left in let ie = i.right in record { one = h; row = omega (arith, ints, ir); from = omega (arith, ints, il); to = omega (arith, ints, ie, r, d) }),
      λ u. (let ur = u.row in let uf = u.from in let ut = u.to in record {
        row = omega (arith, ints, ur);
        left = by_lt_z {P = (s.left_end <ℤ v.x) ⊎ ((s.left_end ≡ v.x) × ((pos 2 *ℤ (s.left -ℤ s.left_end)) ≤ℤ (pos 4 *ℤ (s.bottom -ℤ s.top))))} s.left_end v.x (λ k. inl k) (λ k. inr (omega (arith, ints, k, uf), omega (arith, ints, l, d)));
        right = inl (omega (arith, ints, ut));
      }),
    )

-- ---- copper next to the row, and the points half a unit away
pub below_left : (ss : List Strip) (v : Point) → AreOrdered ss → HasCopper ss v 4 ↔ HasCopperBelow ss (left_of v)
below_left ss v o = (
  λ c. of_under ss (left_of v) c.strip o ((under_left ss c.strip v o c.one).0 c.is),
  λ b. (let u = under_of ss (left_of v) o b in record { strip = u.0; one = (u.1).one; is = (under_left ss u.0 v o (u.1).one).1 u.1 }),
)

pub below_right : (ss : List Strip) (v : Point) → AreOrdered ss → HasCopper ss v 7 ↔ HasCopperBelow ss (right_of v)
below_right ss v o = (
  λ c. of_under ss (right_of v) c.strip o ((under_right ss c.strip v o c.one).0 c.is),
  λ b. (let u = under_of ss (right_of v) o b in record { strip = u.0; one = (u.1).one; is = (under_right ss u.0 v o (u.1).one).1 u.1 }),
)

pub above_left : (ss : List Strip) (v : Point) → AreOrdered ss → HasCopper ss v 3 ↔ HasCopperAbove ss (left_of v)
above_left ss v o = (
  λ c. of_over ss (left_of v) c.strip o ((over_left ss c.strip v o c.one).0 c.is),
  λ b. (let u = over_of ss (left_of v) o b in record { strip = u.0; one = (u.1).one; is = (over_left ss u.0 v o (u.1).one).1 u.1 }),
)

pub above_right : (ss : List Strip) (v : Point) → AreOrdered ss → HasCopper ss v 0 ↔ HasCopperAbove ss (right_of v)
above_right ss v o = (
  λ c. of_over ss (right_of v) c.strip o ((over_right ss c.strip v o c.one).0 c.is),
  λ b. (let u = over_of ss (right_of v) o b in record { strip = u.0; one = (u.1).one; is = (over_right ss u.0 v o (u.1).one).1 u.1 }),
)

-- half a unit from the end of a stretch between neighbours
pub from_left : (ss : List Strip) (a b : Point) → AreNeighbours ss a b → IsStrictlyFrom a b (right_of a)
unfolding right_of
from_left ss a b n = let r = n.rising in record { row = refl; after = omega (arith, ints); before = omega (arith, ints, r) }

pub from_right : (ss : List Strip) (a b : Point) → AreNeighbours ss a b → IsStrictlyFrom a b (left_of b)
unfolding left_of
from_right ss a b n = let r = n.rising in let l = n.level in record { row = omega (arith, ints, l); after = omega (arith, ints, r); before = omega (arith, ints) }

-- ---- what an edge that comes in, or goes out, tells
copper_at : (ss : List Strip) (v : Point) (k l : ℕ) → k ≡ l → HasCopper ss v k → HasCopper ss v l
copper_at ss v k l e c = subst (HasCopper ss v) e c

pub in_copper : (ss : List Strip) (e : Edge) (v : Point) → AreOrdered ss → IsBound ss e → e.finish ≡ v → HasCopper ss v ((direction e + 4) % 8)
unfolding IsLevelPart
in_copper ss e v o (Side (Left s h k)) f =
    let p = f ∙ refl in let q = ap (λ z. z.finish) k in let x = ap (λ z. z.x) (sym q ∙ f) in let y = ap (λ z. z.y) (sym q ∙ f) in
    record { strip = s; one = h; is = left_up_copper (direction e) s v (o.shape s h) (subst (λ d. LeftAt d s) (ap direction (sym k)) (left_is s (o.shape s h)).0) x y ((direction e + 4) % 8) refl }
in_copper ss e v o (Side (Right s h k)) f =
    let q = ap (λ z. z.finish) k in let x = ap (λ z. z.x) (sym q ∙ f) in let y = ap (λ z. z.y) (sym q ∙ f) in
    record { strip = s; one = h; is = right_down_copper (direction e) s v (o.shape s h) (subst (λ d. RightAt d s) (ap direction (sym k)) (right_is s (o.shape s h)).0) x y ((direction e + 4) % 8) refl }
in_copper ss e v o (Level (inl (n, g))) f =
    let d = (rightward ss e n).0 in
    subst (λ z. HasCopper ss z ((direction e + 4) % 8)) f
    (copper_at ss e.finish 4 ((direction e + 4) % 8) (omega (arith, d)) ((below_left ss e.finish o).1 (g (left_of e.finish) (from_right ss e.start e.finish n)).0))
in_copper ss e v o (Level (inr (n, g))) f =
    let d = (leftward ss e n).0 in
    subst (λ z. HasCopper ss z ((direction e + 4) % 8)) f
    (copper_at ss e.finish 0 ((direction e + 4) % 8) (omega (arith, d)) ((above_right ss e.finish o).1 (g (right_of e.finish) (from_left ss e.finish e.start n)).0))

pub in_none : (ss : List Strip) (e : Edge) (v : Point) → AreOrdered ss → IsBound ss e → e.finish ≡ v → HasCopper ss v ((direction e + 3) % 8) → ⊥
unfolding IsLevelPart
in_none ss e v o (Side (Left s h k)) f c =
    let q = ap (λ z. z.finish) k in let x = ap (λ z. z.x) (sym q ∙ f) in let y = ap (λ z. z.y) (sym q ∙ f) in
    left_up_none ss o (direction e) s c.strip v h c.one (subst (λ d. LeftAt d s) (ap direction (sym k)) (left_is s (o.shape s h)).0) x y ((direction e + 3) % 8) refl c.is
in_none ss e v o (Side (Right s h k)) f c =
    let q = ap (λ z. z.finish) k in let x = ap (λ z. z.x) (sym q ∙ f) in let y = ap (λ z. z.y) (sym q ∙ f) in
    right_down_none ss o (direction e) s c.strip v h c.one (subst (λ d. RightAt d s) (ap direction (sym k)) (right_is s (o.shape s h)).0) x y ((direction e + 3) % 8) refl c.is
in_none ss e v o (Level (inl (n, g))) f c =
    let d = (rightward ss e n).0 in
    (g (left_of e.finish) (from_right ss e.start e.finish n)).1 ((above_left ss e.finish o).0 (copper_at ss e.finish ((direction e + 3) % 8) 3 (omega (arith, d)) (subst (λ z. HasCopper ss z ((direction e + 3) % 8)) (sym f) c)))
in_none ss e v o (Level (inr (n, g))) f c =
    let d = (leftward ss e n).0 in
    (g (right_of e.finish) (from_left ss e.finish e.start n)).1 ((below_right ss e.finish o).0 (copper_at ss e.finish ((direction e + 3) % 8) 7 (omega (arith, d)) (subst (λ z. HasCopper ss z ((direction e + 3) % 8)) (sym f) c)))

pub out_copper : (ss : List Strip) (e : Edge) (v : Point) → AreOrdered ss → IsBound ss e → e.start ≡ v → HasCopper ss v ((direction e + 7) % 8)
unfolding IsLevelPart
out_copper ss e v o (Side (Left s h k)) f =
    let q = ap (λ z. z.start) k in let x = ap (λ z. z.x) (sym q ∙ f) in let y = ap (λ z. z.y) (sym q ∙ f) in
    record { strip = s; one = h; is = left_from_copper (direction e) s v (o.shape s h) (subst (λ d. LeftAt d s) (ap direction (sym k)) (left_is s (o.shape s h)).0) x y ((direction e + 7) % 8) refl }
out_copper ss e v o (Side (Right s h k)) f =
    let q = ap (λ z. z.start) k in let x = ap (λ z. z.x) (sym q ∙ f) in let y = ap (λ z. z.y) (sym q ∙ f) in
    record { strip = s; one = h; is = right_from_copper (direction e) s v (o.shape s h) (subst (λ d. RightAt d s) (ap direction (sym k)) (right_is s (o.shape s h)).0) x y ((direction e + 7) % 8) refl }
out_copper ss e v o (Level (inl (n, g))) f =
    let d = (rightward ss e n).0 in
    subst (λ z. HasCopper ss z ((direction e + 7) % 8)) f
    (copper_at ss e.start 7 ((direction e + 7) % 8) (omega (arith, d)) ((below_right ss e.start o).1 (g (right_of e.start) (from_left ss e.start e.finish n)).0))
out_copper ss e v o (Level (inr (n, g))) f =
    let d = (leftward ss e n).0 in
    subst (λ z. HasCopper ss z ((direction e + 7) % 8)) f
    (copper_at ss e.start 3 ((direction e + 7) % 8) (omega (arith, d)) ((above_left ss e.start o).1 (g (left_of e.start) (from_right ss e.finish e.start n)).0))

pub out_none : (ss : List Strip) (e : Edge) (v : Point) → AreOrdered ss → IsBound ss e → e.start ≡ v → HasCopper ss v (direction e) → ⊥
unfolding IsLevelPart
out_none ss e v o (Side (Left s h k)) f c =
    let q = ap (λ z. z.start) k in let x = ap (λ z. z.x) (sym q ∙ f) in let y = ap (λ z. z.y) (sym q ∙ f) in
    left_from_none ss o (direction e) s c.strip v h c.one (subst (λ d. LeftAt d s) (ap direction (sym k)) (left_is s (o.shape s h)).0) x y (direction e) (let l = direction_low e in omega (arith, l)) c.is
out_none ss e v o (Side (Right s h k)) f c =
    let q = ap (λ z. z.start) k in let x = ap (λ z. z.x) (sym q ∙ f) in let y = ap (λ z. z.y) (sym q ∙ f) in
    right_from_none ss o (direction e) s c.strip v h c.one (subst (λ d. RightAt d s) (ap direction (sym k)) (right_is s (o.shape s h)).0) x y (direction e) (let l = direction_low e in omega (arith, l)) c.is
out_none ss e v o (Level (inl (n, g))) f c =
    let d = (rightward ss e n).0 in
    (g (right_of e.start) (from_left ss e.start e.finish n)).1 ((above_right ss e.start o).0 (copper_at ss e.start (direction e) 0 d (subst (λ z. HasCopper ss z (direction e)) (sym f) c)))
out_none ss e v o (Level (inr (n, g))) f c =
    let d = (leftward ss e n).0 in
    (g (left_of e.start) (from_right ss e.finish e.start n)).1 ((below_left ss e.start o).0 (copper_at ss e.start (direction e) 4 d (subst (λ z. HasCopper ss z (direction e)) (sym f) c)))

-- ---- where copper ends an edge goes out
pub record IsOut (ss : List Strip) (v : Point) (r : ℕ) : Type 0 where
  pub edge : Edge
  pub bound : IsBound ss edge
  pub start : edge.start ≡ v
  pub way : direction edge ≡ r

way_1 : (d : ℕ) (s : Strip) → LeftAt d s → s.top <ℤ s.bottom → (pos 2 *ℤ (s.left -ℤ s.left_end)) ≤ℤ (pos 4 *ℤ (s.bottom -ℤ s.top)) → (pos 1 *ℤ (s.bottom -ℤ s.top)) <ℤ (pos 2 *ℤ (s.left -ℤ s.left_end)) → d ≡ 1
unfolding LeftAt
way_1 d s (inl (e, f)) t g l = e
way_1 d s (inr (inl (e, f))) t g l = absurd (omega (arith, ints, f, t, g, l))
way_1 d s (inr (inr (e, f))) t g l = absurd (omega (arith, ints, f, t, g, l))

way_2 : (d : ℕ) (s : Strip) → LeftAt d s → s.top <ℤ s.bottom → (pos 2 *ℤ (s.left -ℤ s.left_end)) ≤ℤ (pos 1 *ℤ (s.bottom -ℤ s.top)) → (negsuc 0 *ℤ (s.bottom -ℤ s.top)) <ℤ (pos 2 *ℤ (s.left -ℤ s.left_end)) → d ≡ 2
unfolding LeftAt
way_2 d s (inl (e, f)) t g l = absurd (omega (arith, ints, f, t, g, l))
way_2 d s (inr (inl (e, f))) t g l = e
way_2 d s (inr (inr (e, f))) t g l = absurd (omega (arith, ints, f, t, g, l))

way_3 : (d : ℕ) (s : Strip) → LeftAt d s → s.top <ℤ s.bottom → (pos 2 *ℤ (s.left -ℤ s.left_end)) ≤ℤ (negsuc 0 *ℤ (s.bottom -ℤ s.top)) → (negsuc 3 *ℤ (s.bottom -ℤ s.top)) <ℤ (pos 2 *ℤ (s.left -ℤ s.left_end)) → d ≡ 3
unfolding LeftAt
way_3 d s (inl (e, f)) t g l = absurd (omega (arith, ints, f, t, g, l))
way_3 d s (inr (inl (e, f))) t g l = absurd (omega (arith, ints, f, t, g, l))
way_3 d s (inr (inr (e, f))) t g l = e

way_5 : (d : ℕ) (s : Strip) → RightAt d s → s.top <ℤ s.bottom → (negsuc 3 *ℤ (s.bottom -ℤ s.top)) ≤ℤ (pos 2 *ℤ (s.right_end -ℤ s.right)) → (pos 2 *ℤ (s.right_end -ℤ s.right)) <ℤ (negsuc 0 *ℤ (s.bottom -ℤ s.top)) → d ≡ 5
unfolding RightAt
way_5 d s (inl (e, f)) t g l = e
way_5 d s (inr (inl (e, f))) t g l = absurd (omega (arith, ints, f, t, g, l))
way_5 d s (inr (inr (e, f))) t g l = absurd (omega (arith, ints, f, t, g, l))

way_6 : (d : ℕ) (s : Strip) → RightAt d s → s.top <ℤ s.bottom → (negsuc 0 *ℤ (s.bottom -ℤ s.top)) ≤ℤ (pos 2 *ℤ (s.right_end -ℤ s.right)) → (pos 2 *ℤ (s.right_end -ℤ s.right)) <ℤ (pos 1 *ℤ (s.bottom -ℤ s.top)) → d ≡ 6
unfolding RightAt
way_6 d s (inl (e, f)) t g l = absurd (omega (arith, ints, f, t, g, l))
way_6 d s (inr (inl (e, f))) t g l = e
way_6 d s (inr (inr (e, f))) t g l = absurd (omega (arith, ints, f, t, g, l))

way_7 : (d : ℕ) (s : Strip) → RightAt d s → s.top <ℤ s.bottom → (pos 1 *ℤ (s.bottom -ℤ s.top)) ≤ℤ (pos 2 *ℤ (s.right_end -ℤ s.right)) → (pos 2 *ℤ (s.right_end -ℤ s.right)) <ℤ (pos 4 *ℤ (s.bottom -ℤ s.top)) → d ≡ 7
unfolding RightAt
way_7 d s (inl (e, f)) t g l = absurd (omega (arith, ints, f, t, g, l))
way_7 d s (inr (inl (e, f))) t g l = absurd (omega (arith, ints, f, t, g, l))
way_7 d s (inr (inr (e, f))) t g l = e

out_1 : (ss : List Strip) (v : Point) → AreOrdered ss → HasCopper ss v 0 → (HasCopper ss v 1 → ⊥) → IsOut ss v 1
unfolding IsSector LeftAt
out_1 ss v o c n = at c.is
  where
    s : Strip
    s = c.strip

    t : IsTrapezoid s
    t = o.shape s c.one

    wide : (v.x <ℤ s.right_end) ⊎ ((s.right_end ≡ v.x) × ((pos 4 *ℤ (s.bottom -ℤ s.top)) ≤ℤ (pos 2 *ℤ (s.right -ℤ s.right_end))))
        → (v.x <ℤ s.right_end) ⊎ ((s.right_end ≡ v.x) × ((pos 1 *ℤ (s.bottom -ℤ s.top)) ≤ℤ (pos 2 *ℤ (s.right -ℤ s.right_end))))
    wide (inl l) = inl l
    wide (inr (e, g)) = inr (e, (let d = t.down in omega (arith, ints, g, d)))

    by : s.bottom ≡ v.y → s.left_end ≡ v.x → (pos 2 *ℤ (s.left -ℤ s.left_end)) ≤ℤ (pos 4 *ℤ (s.bottom -ℤ s.top)) → (pos 1 *ℤ (s.bottom -ℤ s.top)) <ℤ (pos 2 *ℤ (s.left -ℤ s.left_end)) → IsOut ss v 1
    by y x g l = record {
      edge = left_edge s;
      bound = Side (Left s c.one refl);
      start = point_same (left_edge s).start v x y;
      way = (let w = (left_is s t).0 in let d = t.down in way_1 (direction (left_edge s)) s w d g l);
    }

    at : IsAboveAlong s v (pos 4) → IsOut ss v 1
    at i = elim i.left [
      | inl l ↦ absurd (n (record { strip = s; one = c.one; is = record { row = i.row; left = inl l; right = wide i.right } }))
      | inr p ↦ by_lt_z {P = IsOut ss v 1} (pos 1 *ℤ (s.bottom -ℤ s.top)) (pos 2 *ℤ (s.left -ℤ s.left_end)) (λ l. by i.row p.0 p.1 l)
          (λ l. absurd (n (record { strip = s; one = c.one; is = record { row = i.row; left = inr (p.0, l); right = wide i.right } })))
    ]

out_2 : (ss : List Strip) (v : Point) → AreOrdered ss → HasCopper ss v 1 → (HasCopper ss v 2 → ⊥) → IsOut ss v 2
unfolding IsSector LeftAt
out_2 ss v o c n = at c.is
  where
    s : Strip
    s = c.strip

    t : IsTrapezoid s
    t = o.shape s c.one

    wide : (v.x <ℤ s.right_end) ⊎ ((s.right_end ≡ v.x) × ((pos 1 *ℤ (s.bottom -ℤ s.top)) ≤ℤ (pos 2 *ℤ (s.right -ℤ s.right_end))))
        → (v.x <ℤ s.right_end) ⊎ ((s.right_end ≡ v.x) × ((negsuc 0 *ℤ (s.bottom -ℤ s.top)) ≤ℤ (pos 2 *ℤ (s.right -ℤ s.right_end))))
    wide (inl l) = inl l
    wide (inr (e, g)) = inr (e, (let d = t.down in omega (arith, ints, g, d)))

    by : s.bottom ≡ v.y → s.left_end ≡ v.x → (pos 2 *ℤ (s.left -ℤ s.left_end)) ≤ℤ (pos 1 *ℤ (s.bottom -ℤ s.top)) → (negsuc 0 *ℤ (s.bottom -ℤ s.top)) <ℤ (pos 2 *ℤ (s.left -ℤ s.left_end)) → IsOut ss v 2
    by y x g l = record {
      edge = left_edge s;
      bound = Side (Left s c.one refl);
      start = point_same (left_edge s).start v x y;
      way = (let w = (left_is s t).0 in let d = t.down in way_2 (direction (left_edge s)) s w d g l);
    }

    at : IsAboveAlong s v (pos 1) → IsOut ss v 2
    at i = elim i.left [
      | inl l ↦ absurd (n (record { strip = s; one = c.one; is = record { row = i.row; left = inl l; right = wide i.right } }))
      | inr p ↦ by_lt_z {P = IsOut ss v 2} (negsuc 0 *ℤ (s.bottom -ℤ s.top)) (pos 2 *ℤ (s.left -ℤ s.left_end)) (λ l. by i.row p.0 p.1 l)
          (λ l. absurd (n (record { strip = s; one = c.one; is = record { row = i.row; left = inr (p.0, l); right = wide i.right } })))
    ]

out_3 : (ss : List Strip) (v : Point) → AreOrdered ss → HasCopper ss v 2 → (HasCopper ss v 3 → ⊥) → IsOut ss v 3
unfolding IsSector LeftAt
out_3 ss v o c n = at c.is
  where
    s : Strip
    s = c.strip

    t : IsTrapezoid s
    t = o.shape s c.one

    wide : (v.x <ℤ s.right_end) ⊎ ((s.right_end ≡ v.x) × ((negsuc 0 *ℤ (s.bottom -ℤ s.top)) ≤ℤ (pos 2 *ℤ (s.right -ℤ s.right_end))))
        → (v.x <ℤ s.right_end) ⊎ ((s.right_end ≡ v.x) × ((negsuc 3 *ℤ (s.bottom -ℤ s.top)) ≤ℤ (pos 2 *ℤ (s.right -ℤ s.right_end))))
    wide (inl l) = inl l
    wide (inr (e, g)) = inr (e, (let d = t.down in omega (arith, ints, g, d)))

    by : s.bottom ≡ v.y → s.left_end ≡ v.x → (pos 2 *ℤ (s.left -ℤ s.left_end)) ≤ℤ (negsuc 0 *ℤ (s.bottom -ℤ s.top)) → (negsuc 3 *ℤ (s.bottom -ℤ s.top)) <ℤ (pos 2 *ℤ (s.left -ℤ s.left_end)) → IsOut ss v 3
    by y x g l = record {
      edge = left_edge s;
      bound = Side (Left s c.one refl);
      start = point_same (left_edge s).start v x y;
      way = (let w = (left_is s t).0 in let d = t.down in way_3 (direction (left_edge s)) s w d g l);
    }

    at : IsAboveAlong s v (negsuc 0) → IsOut ss v 3
    at i = elim i.left [
      | inl l ↦ absurd (n (record { strip = s; one = c.one; is = record { row = i.row; left = inl l; right = wide i.right } }))
      | inr p ↦ by_lt_z {P = IsOut ss v 3} (negsuc 3 *ℤ (s.bottom -ℤ s.top)) (pos 2 *ℤ (s.left -ℤ s.left_end)) (λ l. by i.row p.0 p.1 l)
          (λ l. absurd (n (record { strip = s; one = c.one; is = record { row = i.row; left = inr (p.0, l); right = wide i.right } })))
    ]

out_5 : (ss : List Strip) (v : Point) → AreOrdered ss → HasCopper ss v 4 → (HasCopper ss v 5 → ⊥) → IsOut ss v 5
unfolding IsSector RightAt
out_5 ss v o c n = at c.is
  where
    s : Strip
    s = c.strip

    t : IsTrapezoid s
    t = o.shape s c.one

    wide : (s.left <ℤ v.x) ⊎ ((s.left ≡ v.x) × ((pos 2 *ℤ (s.left_end -ℤ s.left)) ≤ℤ (negsuc 3 *ℤ (s.bottom -ℤ s.top))))
        → (s.left <ℤ v.x) ⊎ ((s.left ≡ v.x) × ((pos 2 *ℤ (s.left_end -ℤ s.left)) ≤ℤ (negsuc 0 *ℤ (s.bottom -ℤ s.top))))
    wide (inl l) = inl l
    wide (inr (e, g)) = inr (e, (let d = t.down in omega (arith, ints, g, d)))

    by : s.top ≡ v.y → s.right ≡ v.x → (negsuc 3 *ℤ (s.bottom -ℤ s.top)) ≤ℤ (pos 2 *ℤ (s.right_end -ℤ s.right)) → (pos 2 *ℤ (s.right_end -ℤ s.right)) <ℤ (negsuc 0 *ℤ (s.bottom -ℤ s.top)) → IsOut ss v 5
    by y x g l = record {
      edge = right_edge s;
      bound = Side (Right s c.one refl);
      start = point_same (right_edge s).start v x y;
      way = (let w = (right_is s t).0 in let d = t.down in way_5 (direction (right_edge s)) s w d g l);
    }

    at : IsBelowAlong s v (negsuc 3) → IsOut ss v 5
    at i = elim i.right [
      | inl l ↦ absurd (n (record { strip = s; one = c.one; is = record { row = i.row; left = wide i.left; right = inl l } }))
      | inr p ↦ by_lt_z {P = IsOut ss v 5} (pos 2 *ℤ (s.right_end -ℤ s.right)) (negsuc 0 *ℤ (s.bottom -ℤ s.top)) (λ l. by i.row p.0 p.1 l)
          (λ l. absurd (n (record { strip = s; one = c.one; is = record { row = i.row; left = wide i.left; right = inr (p.0, l) } })))
    ]

out_6 : (ss : List Strip) (v : Point) → AreOrdered ss → HasCopper ss v 5 → (HasCopper ss v 6 → ⊥) → IsOut ss v 6
unfolding IsSector RightAt
out_6 ss v o c n = at c.is
  where
    s : Strip
    s = c.strip

    t : IsTrapezoid s
    t = o.shape s c.one

    wide : (s.left <ℤ v.x) ⊎ ((s.left ≡ v.x) × ((pos 2 *ℤ (s.left_end -ℤ s.left)) ≤ℤ (negsuc 0 *ℤ (s.bottom -ℤ s.top))))
        → (s.left <ℤ v.x) ⊎ ((s.left ≡ v.x) × ((pos 2 *ℤ (s.left_end -ℤ s.left)) ≤ℤ (pos 1 *ℤ (s.bottom -ℤ s.top))))
    wide (inl l) = inl l
    wide (inr (e, g)) = inr (e, (let d = t.down in omega (arith, ints, g, d)))

    by : s.top ≡ v.y → s.right ≡ v.x → (negsuc 0 *ℤ (s.bottom -ℤ s.top)) ≤ℤ (pos 2 *ℤ (s.right_end -ℤ s.right)) → (pos 2 *ℤ (s.right_end -ℤ s.right)) <ℤ (pos 1 *ℤ (s.bottom -ℤ s.top)) → IsOut ss v 6
    by y x g l = record {
      edge = right_edge s;
      bound = Side (Right s c.one refl);
      start = point_same (right_edge s).start v x y;
      way = (let w = (right_is s t).0 in let d = t.down in way_6 (direction (right_edge s)) s w d g l);
    }

    at : IsBelowAlong s v (negsuc 0) → IsOut ss v 6
    at i = elim i.right [
      | inl l ↦ absurd (n (record { strip = s; one = c.one; is = record { row = i.row; left = wide i.left; right = inl l } }))
      | inr p ↦ by_lt_z {P = IsOut ss v 6} (pos 2 *ℤ (s.right_end -ℤ s.right)) (pos 1 *ℤ (s.bottom -ℤ s.top)) (λ l. by i.row p.0 p.1 l)
          (λ l. absurd (n (record { strip = s; one = c.one; is = record { row = i.row; left = wide i.left; right = inr (p.0, l) } })))
    ]

out_7 : (ss : List Strip) (v : Point) → AreOrdered ss → HasCopper ss v 6 → (HasCopper ss v 7 → ⊥) → IsOut ss v 7
unfolding IsSector RightAt
out_7 ss v o c n = at c.is
  where
    s : Strip
    s = c.strip

    t : IsTrapezoid s
    t = o.shape s c.one

    wide : (s.left <ℤ v.x) ⊎ ((s.left ≡ v.x) × ((pos 2 *ℤ (s.left_end -ℤ s.left)) ≤ℤ (pos 1 *ℤ (s.bottom -ℤ s.top))))
        → (s.left <ℤ v.x) ⊎ ((s.left ≡ v.x) × ((pos 2 *ℤ (s.left_end -ℤ s.left)) ≤ℤ (pos 4 *ℤ (s.bottom -ℤ s.top))))
    wide (inl l) = inl l
    wide (inr (e, g)) = inr (e, (let d = t.down in omega (arith, ints, g, d)))

    by : s.top ≡ v.y → s.right ≡ v.x → (pos 1 *ℤ (s.bottom -ℤ s.top)) ≤ℤ (pos 2 *ℤ (s.right_end -ℤ s.right)) → (pos 2 *ℤ (s.right_end -ℤ s.right)) <ℤ (pos 4 *ℤ (s.bottom -ℤ s.top)) → IsOut ss v 7
    by y x g l = record {
      edge = right_edge s;
      bound = Side (Right s c.one refl);
      start = point_same (right_edge s).start v x y;
      way = (let w = (right_is s t).0 in let d = t.down in way_7 (direction (right_edge s)) s w d g l);
    }

    at : IsBelowAlong s v (pos 1) → IsOut ss v 7
    at i = elim i.right [
      | inl l ↦ absurd (n (record { strip = s; one = c.one; is = record { row = i.row; left = wide i.left; right = inl l } }))
      | inr p ↦ by_lt_z {P = IsOut ss v 7} (pos 2 *ℤ (s.right_end -ℤ s.right)) (pos 4 *ℤ (s.bottom -ℤ s.top)) (λ l. by i.row p.0 p.1 l)
          (λ l. absurd (n (record { strip = s; one = c.one; is = record { row = i.row; left = wide i.left; right = inr (p.0, l) } })))
    ]

-- a level part to the right, or to the left
out_0 : (ss : List Strip) (v : Point) → AreOrdered ss → IsCorner ss v → HasCopper ss v 7 → (HasCopper ss v 0 → ⊥) → IsOut ss v 0
unfolding right_of NoCorner
out_0 ss v o i c n =
    let p = right_of v in
    let b = (below_right ss v o).0 c in
    let t = under_of ss p o b in
    let tr = (t.1).row in let tt = (t.1).to in
    let g = gap ss v.y p v (record { x = t.0.right; y = t.0.top }) (λ q j z e. omega (arith, ints, e)) i refl (omega (arith, ints)) (top_right ss t.0 (t.1).one) (omega (arith, ints, tr)) (omega (arith, ints, tt)) in
    let a = g.0 in
    let e = g.1 in
    let gl = (g.2).left in
    let gr = (g.2).right in
    let same : a.x ≡ v.x = by_lt_z {P = a.x ≡ v.x} a.x v.x (λ m. absurd (((g.2).are).next v i (sym (g.2).row) m (omega (arith, ints, gr)))) (λ m. omega (arith, ints, m, gl)) in
    let part = part_below ss a e p o (g.2).are (record { row = (let z = (g.2).row in omega (arith, ints, z)); after = gl; before = gr }) b (λ u. n ((above_right ss v o).1 u)) in
    record {
      edge = record { start = a; finish = e };
      bound = Level part;
      start = point_same a v same (g.2).row;
      way = (rightward ss (record { start = a; finish = e }) (g.2).are).0;
    }

out_4 : (ss : List Strip) (v : Point) → AreOrdered ss → IsCorner ss v → HasCopper ss v 3 → (HasCopper ss v 4 → ⊥) → IsOut ss v 4
unfolding left_of NoCorner
out_4 ss v o i c n =
    let p = left_of v in
    let b = (above_left ss v o).0 c in
    let t = over_of ss p o b in
    let tr = (t.1).row in let tf = (t.1).from in
    let g = gap ss v.y p (record { x = t.0.left_end; y = t.0.bottom }) v (λ q j z e. omega (arith, ints, e)) (bottom_left ss t.0 (t.1).one) (omega (arith, ints, tr)) (omega (arith, ints, tf)) i refl (omega (arith, ints)) in
    let a = g.0 in
    let e = g.1 in
    let gl = (g.2).left in
    let gr = (g.2).right in
    let ge = ((g.2).are).level in
    let same : e.x ≡ v.x = by_lt_z {P = e.x ≡ v.x} v.x e.x (λ m. absurd (((g.2).are).next v i (sym (g.2).row) (omega (arith, ints, gl)) m)) (λ m. omega (arith, ints, m, gr)) in
    let part = part_above ss a e p o (g.2).are (record { row = (let z = (g.2).row in omega (arith, ints, z)); after = gl; before = gr }) b (λ u. n ((below_left ss v o).1 u)) in
    record {
      edge = record { start = e; finish = a };
      bound = Level part;
      start = point_same e v same (sym ge ∙ (g.2).row);
      way = (leftward ss (record { start = e; finish = a }) (g.2).are).0;
    }

pub out_there : (r : ℕ) → r < 8 → (ss : List Strip) (v : Point) → AreOrdered ss → IsCorner ss v → HasCopper ss v ((r + 7) % 8) → (HasCopper ss v r → ⊥) → IsOut ss v r
out_there zero h ss v o i c n = out_0 ss v o i c n
out_there (suc zero) h ss v o i c n = out_1 ss v o c n
out_there (suc (suc zero)) h ss v o i c n = out_2 ss v o c n
out_there (suc (suc (suc zero))) h ss v o i c n = out_3 ss v o c n
out_there (suc (suc (suc (suc zero)))) h ss v o i c n = out_4 ss v o i c n
out_there (suc (suc (suc (suc (suc zero))))) h ss v o i c n = out_5 ss v o c n
out_there (suc (suc (suc (suc (suc (suc zero)))))) h ss v o i c n = out_6 ss v o c n
out_there (suc (suc (suc (suc (suc (suc (suc zero))))))) h ss v o i c n = out_7 ss v o c n
out_there (suc (suc (suc (suc (suc (suc (suc (suc r)))))))) h ss v o i c n = absurd (omega (arith, h))
