-- The sides of strips: their directions, and that they don't overlap.
use Rattle.std.proofs.Common.{◌≡◌, refl, sym, subst, ap, ◌∙◌, ℕ, ◌⊎◌, inl, inr, arith, List, [], ◌∷◌}
use Rattle.std.specs.Prelude.{◌-ℤ◌, ◌<ℤ◌, ◌≤ℤ◌}
use Rattle.std.proofs.lemmas.Int.{ints}
use Rattle.grid_num.specs.declared.Point.{Point}
use Rattle.strips.specs.declared.Strip.{Strip}
use Rattle.strips.specs.Strips.{IsTrapezoid, IsSloped, AreApartInSlab, IsStripBefore}
use Rattle.rings.specs.Turning.{direction}
use Rattle.rings.specs.Boundary.{left_edge, right_edge}
use Rattle.rings.proofs.Lists.{Has, Rising}
use Rattle.rings.proofs.Order.{point_same}
use Rattle.rings.proofs.Lines.{line, along, GoesOn, IsGood, direction_is}
use Rattle.rings.proofs.Parted.{IsAlong, OnHalf}
use Rattle.rings.proofs.Unique.{edge_same}

-- what is used of the strips of octagons: trapezoids, in order
pub record AreOrdered (ss : List Strip) : Type 0 where
  pub shape : (s : Strip) → Has ss s → IsTrapezoid s
  pub order : Rising IsStripBefore ss

-- two strips whose rows overlap are between the same two rows, and are one or apart
pub record AreBeside (s t : Strip) : Type 0 where
  pub top : s.top ≡ t.top
  pub bottom : s.bottom ≡ t.bottom
  pub are : (s ≡ t) ⊎ (AreApartInSlab s t ⊎ AreApartInSlab t s)

pair_cases : (ss : List Strip) → Rising IsStripBefore ss → (s t : Strip) → Has ss s → Has ss t → (s ≡ t) ⊎ (IsStripBefore s t ⊎ IsStripBefore t s)
unfolding Rising Has
pair_cases [] r s t h i = absurd h
pair_cases (x ∷ xs) r s t (inl e) (inl f) = inl (sym e ∙ f)
pair_cases (x ∷ xs) r s t (inl e) (inr i) = inr (inl (subst (λ z. IsStripBefore z t) e (r.0 t i)))
pair_cases (x ∷ xs) r s t (inr h) (inl f) = inr (inr (subst (λ z. IsStripBefore z s) f (r.0 s h)))
pair_cases (x ∷ xs) r s t (inr h) (inr i) = pair_cases xs r.1 s t h i

pub beside : (ss : List Strip) → AreOrdered ss → (s t : Strip) → Has ss s → Has ss t → s.top <ℤ t.bottom → t.top <ℤ s.bottom → AreBeside s t
beside ss o s t h i a b = elim (pair_cases ss o.order s t h i) [
  | inl e ↦ record { top = ap (λ z. z.top) e; bottom = ap (λ z. z.bottom) e; are = inl e }
  | inr c ↦ elim c [
    | inl c ↦ elim c [ inl l ↦ absurd (omega (arith, ints, l, b)) | inr c ↦ record { top = c.0; bottom = c.1; are = inr (inl c.2) } ]
    | inr c ↦ elim c [ inl l ↦ absurd (omega (arith, ints, l, a)) | inr c ↦ record { top = sym c.0; bottom = sym c.1; are = inr (inr c.2) } ]
  ]
]

-- ---- directions
-- how the left side goes, upward
unfoldable pub LeftAt : ℕ → Strip → Type 0
LeftAt d s =
    ((d ≡ 1) × (s.left_end -ℤ s.left ≡ s.top -ℤ s.bottom)) ⊎ (((d ≡ 2) × (s.left_end ≡ s.left)) ⊎ ((d ≡ 3) × (s.left_end -ℤ s.left ≡ s.bottom -ℤ s.top)))

-- how the right side goes, downward
unfoldable pub RightAt : ℕ → Strip → Type 0
RightAt d s =
    ((d ≡ 5) × (s.right_end -ℤ s.right ≡ s.top -ℤ s.bottom)) ⊎ (((d ≡ 6) × (s.right_end ≡ s.right)) ⊎ ((d ≡ 7) × (s.right_end -ℤ s.right ≡ s.bottom -ℤ s.top)))

left_at : (s : Strip) → IsTrapezoid s → (d : ℕ) × LeftAt d s × GoesOn d (left_edge s)
unfolding line along LeftAt
left_at s t = at t.left
  where
    at : IsSloped s.top s.bottom s.left s.left_end → (d : ℕ) × LeftAt d s × GoesOn d (left_edge s)
    at (inl e) = let d = t.down in (2, inr (inl (refl, e)), record { line = sym e; on = omega (arith, ints, d) })
    at (inr (inl e)) = let d = t.down in (3, inr (inr (refl, e)), record { line = omega (arith, ints, e); on = omega (arith, ints, d) })
    at (inr (inr e)) = let d = t.down in (1, inl (refl, e), record { line = omega (arith, ints, e); on = omega (arith, ints, d, e) })

right_at : (s : Strip) → IsTrapezoid s → (d : ℕ) × RightAt d s × GoesOn d (right_edge s)
unfolding line along RightAt
right_at s t = at t.right
  where
    at : IsSloped s.top s.bottom s.right s.right_end → (d : ℕ) × RightAt d s × GoesOn d (right_edge s)
    at (inl e) = let d = t.down in (6, inr (inl (refl, e)), record { line = e; on = d })
    at (inr (inl e)) = let d = t.down in (7, inr (inr (refl, e)), record { line = omega (arith, ints, e); on = d })
    at (inr (inr e)) = let d = t.down in (5, inl (refl, e), record { line = omega (arith, ints, e); on = d })

pub left_is : (s : Strip) → IsTrapezoid s → LeftAt (direction (left_edge s)) s × IsGood (left_edge s)
unfolding LeftAt
left_is s t =
    let r = left_at s t in
    let e = direction_is r.0 (let c = r.1 in omega (arith, c)) (left_edge s) r.2 in
    (subst (λ d. LeftAt d s) (sym e) r.1, subst (λ d. GoesOn d (left_edge s)) (sym e) r.2)

pub right_is : (s : Strip) → IsTrapezoid s → RightAt (direction (right_edge s)) s × IsGood (right_edge s)
unfolding RightAt
right_is s t =
    let r = right_at s t in
    let e = direction_is r.0 (let c = r.1 in omega (arith, c)) (right_edge s) r.2 in
    (subst (λ d. RightAt d s) (sym e) r.1, subst (λ d. GoesOn d (right_edge s)) (sym e) r.2)

-- ---- rows
left_rows : (d : ℕ) (s : Strip) (q : Point) → LeftAt d s → IsAlong d (left_edge s) q → (s.top <ℤ q.y) × (q.y ≤ℤ s.bottom)
unfolding LeftAt line along
left_rows d s q (inl (e, f)) a =
    let b = subst (λ d. IsAlong d (left_edge s) q) e a in let l = b.line in let m = b.from in let n = b.to in (omega (arith, ints, f, l, m, n), omega (arith, ints, f, l, m, n))
left_rows d s q (inr (inl (e, f))) a =
    let b = subst (λ d. IsAlong d (left_edge s) q) e a in let l = b.line in let m = b.from in let n = b.to in (omega (arith, ints, f, l, m, n), omega (arith, ints, f, l, m, n))
left_rows d s q (inr (inr (e, f))) a =
    let b = subst (λ d. IsAlong d (left_edge s) q) e a in let l = b.line in let m = b.from in let n = b.to in (omega (arith, ints, f, l, m, n), omega (arith, ints, f, l, m, n))

right_rows : (d : ℕ) (s : Strip) (q : Point) → RightAt d s → IsAlong d (right_edge s) q → (s.top ≤ℤ q.y) × (q.y <ℤ s.bottom)
unfolding RightAt line along
right_rows d s q (inl (e, f)) a =
    let b = subst (λ d. IsAlong d (right_edge s) q) e a in let l = b.line in let m = b.from in let n = b.to in (omega (arith, ints, f, l, m, n), omega (arith, ints, f, l, m, n))
right_rows d s q (inr (inl (e, f))) a =
    let b = subst (λ d. IsAlong d (right_edge s) q) e a in let l = b.line in let m = b.from in let n = b.to in (omega (arith, ints, f, l, m, n), omega (arith, ints, f, l, m, n))
right_rows d s q (inr (inr (e, f))) a =
    let b = subst (λ d. IsAlong d (right_edge s) q) e a in let l = b.line in let m = b.from in let n = b.to in (omega (arith, ints, f, l, m, n), omega (arith, ints, f, l, m, n))

-- two left sides between the same rows, on one line, are one
left_one : (d : ℕ) (s t : Strip) (q : Point) → LeftAt d s → LeftAt d t → IsAlong d (left_edge s) q → IsAlong d (left_edge t) q → s.top ≡ t.top → s.bottom ≡ t.bottom
    → (s.left ≡ t.left) × (s.left_end ≡ t.left_end)
unfolding LeftAt line along
left_one d s t q k j a b g h = at k
  where
    at : LeftAt d s → (s.left ≡ t.left) × (s.left_end ≡ t.left_end)
    at (inl (e, f)) =
        let u = (subst (λ d. IsAlong d (left_edge s) q) e a).line in let v = (subst (λ d. IsAlong d (left_edge t) q) e b).line in
        (omega (arith, ints, e, f, j, u, v, g, h), omega (arith, ints, e, f, j, u, v, g, h))
    at (inr (inl (e, f))) =
        let u = (subst (λ d. IsAlong d (left_edge s) q) e a).line in let v = (subst (λ d. IsAlong d (left_edge t) q) e b).line in
        (omega (arith, ints, e, f, j, u, v, g, h), omega (arith, ints, e, f, j, u, v, g, h))
    at (inr (inr (e, f))) =
        let u = (subst (λ d. IsAlong d (left_edge s) q) e a).line in let v = (subst (λ d. IsAlong d (left_edge t) q) e b).line in
        (omega (arith, ints, e, f, j, u, v, g, h), omega (arith, ints, e, f, j, u, v, g, h))

right_one : (d : ℕ) (s t : Strip) (q : Point) → RightAt d s → RightAt d t → IsAlong d (right_edge s) q → IsAlong d (right_edge t) q → s.top ≡ t.top → s.bottom ≡ t.bottom
    → (s.right ≡ t.right) × (s.right_end ≡ t.right_end)
unfolding RightAt line along
right_one d s t q k j a b g h = at k
  where
    at : RightAt d s → (s.right ≡ t.right) × (s.right_end ≡ t.right_end)
    at (inl (e, f)) =
        let u = (subst (λ d. IsAlong d (right_edge s) q) e a).line in let v = (subst (λ d. IsAlong d (right_edge t) q) e b).line in
        (omega (arith, ints, e, f, j, u, v, g, h), omega (arith, ints, e, f, j, u, v, g, h))
    at (inr (inl (e, f))) =
        let u = (subst (λ d. IsAlong d (right_edge s) q) e a).line in let v = (subst (λ d. IsAlong d (right_edge t) q) e b).line in
        (omega (arith, ints, e, f, j, u, v, g, h), omega (arith, ints, e, f, j, u, v, g, h))
    at (inr (inr (e, f))) =
        let u = (subst (λ d. IsAlong d (right_edge s) q) e a).line in let v = (subst (λ d. IsAlong d (right_edge t) q) e b).line in
        (omega (arith, ints, e, f, j, u, v, g, h), omega (arith, ints, e, f, j, u, v, g, h))

pub left_parted : (ss : List Strip) → AreOrdered ss → (s t : Strip) (q : Point) → Has ss s → Has ss t → direction (left_edge s) ≡ direction (left_edge t)
    → OnHalf (left_edge s) q → OnHalf (left_edge t) q → left_edge s ≡ left_edge t
left_parted ss o s t q h i d a b =
    let k = (left_is s (o.shape s h)).0 in
    let j = (left_is t (o.shape t i)).0 in
    let m = left_rows (direction (left_edge s)) s q k a in
    let n = left_rows (direction (left_edge t)) t q j b in
    let c = beside ss o s t h i (let x = m.0 in let y = n.1 in omega (arith, ints, x, y)) (let x = n.0 in let y = m.1 in omega (arith, ints, x, y)) in
    let r = left_one (direction (left_edge s)) s t q k (subst (λ e. LeftAt e t) (sym d) j) a (subst (λ e. IsAlong e (left_edge t) q) (sym d) b) c.top c.bottom in
    edge_same (left_edge s) (left_edge t) (point_same (left_edge s).start (left_edge t).start r.1 c.bottom) (point_same (left_edge s).finish (left_edge t).finish r.0 c.top)

pub right_parted : (ss : List Strip) → AreOrdered ss → (s t : Strip) (q : Point) → Has ss s → Has ss t → direction (right_edge s) ≡ direction (right_edge t)
    → OnHalf (right_edge s) q → OnHalf (right_edge t) q → right_edge s ≡ right_edge t
right_parted ss o s t q h i d a b =
    let k = (right_is s (o.shape s h)).0 in
    let j = (right_is t (o.shape t i)).0 in
    let m = right_rows (direction (right_edge s)) s q k a in
    let n = right_rows (direction (right_edge t)) t q j b in
    let c = beside ss o s t h i (let x = m.0 in let y = n.1 in omega (arith, ints, x, y)) (let x = n.0 in let y = m.1 in omega (arith, ints, x, y)) in
    let r = right_one (direction (right_edge s)) s t q k (subst (λ e. RightAt e t) (sym d) j) a (subst (λ e. IsAlong e (right_edge t) q) (sym d) b) c.top c.bottom in
    edge_same (right_edge s) (right_edge t) (point_same (right_edge s).start (right_edge t).start r.0 c.top) (point_same (right_edge s).finish (right_edge t).finish r.1 c.bottom)
