-- The corners of a tight octagon cover exactly its points.
use Rattle.std.proofs.Common.{◌≡◌, subst, zero, suc, ◌<◌, get_or, refl, sym, ◌∙◌, ap, ℕ, ◌+◌, ◌⊎◌, inl, inr, arith}
use Rattle.std.specs.Prelude.{ℤ, pos, ◌+ℤ◌, ◌-ℤ◌, ◌*ℤ◌, ◌≤ℤ◌, ◌<ℤ◌, Any}
use Rattle.std.proofs.lemmas.Int.{ints, by_lt_z}
use Rattle.plane.specs.Plane.{PlanePoint, Bounds, Within, StrictlyWithin, times, In, StrictlyIn, IsTight}
use Rattle.grid_num.proofs.Products.{mul_add, mul_sub}
use Rattle.plane.proofs.Times.{IsTight-times}
use Rattle.grid_num.specs.declared.Point.{Point}
use Rattle.plane.specs.Covering.{Edge, IsOn, down_crossing, crossing, crossings, IsOdd, Covers, StrictlyCovers, edges_of}
use Rattle.plane.specs.Corners.{corners_of}
use Rattle.plane.specs.CoverLaws.{CornersLaw, StrictCornersLaw}
use Rattle.plane.proofs.Counts.{Counts, upright, rise, fall, none_up}
use Rattle.plane.proofs.On.{on_level, level_on, on_upright, upright_on, on_rise, rise_on, on_fall, fall_on}
use Rattle.plane.proofs.Sides.{CountsLeft, CountsRight, left_side, right_side}
use Rattle.plane.proofs.Lists.{covers_on, covers_odd, covers_cases}

counts_same : (n : ℕ) (l l' h h' y m m' u : ℤ) → l ≡ l' → h ≡ h' → m ≡ m' → Counts n l h y m u → Counts n l' h' y m' u
counts_same n l l' h h' y m m' u e f g c =
    elim c [
      | inl w ↦ inl (w.0, omega (arith, ints), omega (arith, ints), omega (arith, ints))
      | inr w ↦ inr (w.0, elim (w.1) [ inl v ↦ inl (omega (arith, ints)) | inr v ↦ inr (elim v [ inl z ↦ inl (omega (arith, ints)) | inr z ↦ inr (omega (arith, ints)) ]) ])
    ]

abbrev pub point : ℤ → ℤ → Point
point x y = record { x = x; y = y }

abbrev edge : Point → Point → Edge
edge a b = record { start = a; finish = b }

abbrev pub c0 : Bounds → Point
c0 b = point (b.s0 -ℤ b.y0) b.y0

abbrev pub c1 : Bounds → Point
c1 b = point (b.d1 +ℤ b.y0) b.y0

abbrev pub c2 : Bounds → Point
c2 b = point b.x1 (b.x1 -ℤ b.d1)

abbrev pub c3 : Bounds → Point
c3 b = point b.x1 (b.s1 -ℤ b.x1)

abbrev pub c4 : Bounds → Point
c4 b = point (b.s1 -ℤ b.y1) b.y1

abbrev pub c5 : Bounds → Point
c5 b = point (b.d0 +ℤ b.y1) b.y1

abbrev pub c6 : Bounds → Point
c6 b = point b.x0 (b.x0 -ℤ b.d0)

abbrev pub c7 : Bounds → Point
c7 b = point b.x0 (b.s0 -ℤ b.x0)

left_of : Bounds → PlanePoint → ℕ
left_of b p = down_crossing (c6 b) (c5 b) p + down_crossing (c7 b) (c6 b) p + down_crossing (c0 b) (c7 b) p

right_of : Bounds → PlanePoint → ℕ
right_of b p = down_crossing (c1 b) (c2 b) p + down_crossing (c2 b) (c3 b) p + down_crossing (c3 b) (c4 b) p

counts_left : (b : Bounds) (p : PlanePoint) → IsTight b → CountsLeft (left_of b p) (times p.scale b) p.x p.y
unfolding left_of
counts_left b p t =
    left_side (times p.scale b) p.x p.y (down_crossing (c6 b) (c5 b) p) (down_crossing (c7 b) (c6 b) p) (down_crossing (c0 b) (c7 b) p) (IsTight-times p.scale b t)
    (counts_same (down_crossing (c6 b) (c5 b) p) _ _ _ _ _ _ _ _ (mul_sub p.scale b.x0 b.d0) refl (ap (λ (z : ℤ). pos p.scale *ℤ z) (drop b.x0 b.d0))
    (rise (c6 b) (c5 b) p (omega (arith, ints))))
    (counts_same (down_crossing (c7 b) (c6 b) p) _ _ _ _ _ _ _ _ (mul_sub p.scale b.s0 b.x0) (mul_sub p.scale b.x0 b.d0) refl
    (upright (c7 b) (c6 b) p refl))
    (counts_same (down_crossing (c0 b) (c7 b) p) _ _ _ _ _ _ _ _ refl (mul_sub p.scale b.s0 b.x0) (ap (λ (z : ℤ). pos p.scale *ℤ z) (join b.s0 b.y0))
    (fall (c0 b) (c7 b) p (omega (arith, ints))))
  where
    drop : (a b : ℤ) → a -ℤ (a -ℤ b) ≡ b
    drop a b = omega (arith, ints)

    join : (a b : ℤ) → (a -ℤ b) +ℤ b ≡ a
    join a b = omega (arith, ints)

counts_right : (b : Bounds) (p : PlanePoint) → IsTight b → CountsRight (right_of b p) (times p.scale b) p.x p.y
unfolding right_of
counts_right b p t =
    right_side (times p.scale b) p.x p.y (down_crossing (c1 b) (c2 b) p) (down_crossing (c2 b) (c3 b) p) (down_crossing (c3 b) (c4 b) p) (IsTight-times p.scale b t)
    (counts_same (down_crossing (c1 b) (c2 b) p) _ _ _ _ _ _ _ _ refl (mul_sub p.scale b.x1 b.d1) (ap (λ (z : ℤ). pos p.scale *ℤ z) (drop b.d1 b.y0))
    (rise (c1 b) (c2 b) p (omega (arith, ints))))
    (counts_same (down_crossing (c2 b) (c3 b) p) _ _ _ _ _ _ _ _ (mul_sub p.scale b.x1 b.d1) (mul_sub p.scale b.s1 b.x1) refl
    (upright (c2 b) (c3 b) p refl))
    (counts_same (down_crossing (c3 b) (c4 b) p) _ _ _ _ _ _ _ _ (mul_sub p.scale b.s1 b.x1) refl (ap (λ (z : ℤ). pos p.scale *ℤ z) (join b.x1 b.s1))
    (fall (c3 b) (c4 b) p (omega (arith, ints))))
  where
    drop : (a b : ℤ) → (a +ℤ b) -ℤ b ≡ a
    drop a b = omega (arith, ints)

    join : (a b : ℤ) → a +ℤ (b -ℤ a) ≡ b
    join a b = omega (arith, ints)

-- two edges are level, three go down on the right, three go up on the left
both_sides : (b : Bounds) (p : PlanePoint) → IsTight b → crossings (edges_of (corners_of b)) p ≡ left_of b p + right_of b p
unfolding left_of right_of crossing
both_sides b p t =
    omega (
      arith,
      none_up (c0 b) (c1 b) p (omega (arith, ints)),
      none_up (c1 b) (c0 b) p (omega (arith, ints)),
      none_up (c2 b) (c1 b) p (omega (arith, ints)),
      none_up (c3 b) (c2 b) p (omega (arith, ints)),
      none_up (c4 b) (c3 b) p (omega (arith, ints)),
      none_up (c4 b) (c5 b) p (omega (arith, ints)),
      none_up (c5 b) (c4 b) p (omega (arith, ints)),
      none_up (c5 b) (c6 b) p (omega (arith, ints)),
      none_up (c6 b) (c7 b) p (omega (arith, ints)),
      none_up (c7 b) (c0 b) p (omega (arith, ints)),
    )

-- ---- odd crossings
IsHalf : Bounds → ℤ → ℤ → Type 0
IsHalf b x y = (b.y0 ≤ℤ y) × (y <ℤ b.y1) × (b.s0 <ℤ (x +ℤ y)) × ((x +ℤ y) ≤ℤ b.s1) × (b.x0 <ℤ x) × (x ≤ℤ b.x1) × (b.d0 <ℤ (x -ℤ y)) × ((x -ℤ y) ≤ℤ b.d1)

odd_half : (b : Bounds) (x y : ℤ) (l r : ℕ) → IsTight b → CountsLeft l b x y → CountsRight r b x y → IsOdd (l + r) → IsHalf b x y
unfolding IsHalf
odd_half b x y l r t (inl p) (inl q) o = absurd (omega arith)
odd_half b x y l r t (inl p) (inr q) o = omega (arith, ints)
odd_half b x y l r t (inr p) (inl q) o = absurd (omega (arith, ints))
odd_half b x y l r t (inr p) (inr q) o = absurd (omega arith)

half_odd : (b : Bounds) (x y : ℤ) (l r : ℕ) → CountsLeft l b x y → CountsRight r b x y → IsHalf b x y → IsOdd (l + r)
unfolding IsHalf
half_odd b x y l r (inl p) (inl q) h = absurd (omega (arith, ints))
half_odd b x y l r (inl p) (inr q) h = omega arith
half_odd b x y l r (inr p) q h = absurd (omega (arith, ints))

-- ---- the edges' points
e0 : Bounds → Edge
e0 b = edge (c0 b) (c1 b)

abbrev on : PlanePoint → Edge → Type 0
on p e = IsOn e p

IsOnEight : Bounds → PlanePoint → Type 0
IsOnEight b p =
    IsOn (edge (c0 b) (c1 b)) p ⊎ (IsOn (edge (c1 b) (c2 b)) p ⊎ (IsOn (edge (c2 b) (c3 b)) p ⊎ (IsOn (edge (c3 b) (c4 b)) p
    ⊎ (IsOn (edge (c4 b) (c5 b)) p ⊎ (IsOn (edge (c5 b) (c6 b)) p ⊎ (IsOn (edge (c6 b) (c7 b)) p ⊎ IsOn (edge (c7 b) (c0 b)) p))))))

any_eight : (b : Bounds) (p : PlanePoint) → Any (on p) (edges_of (corners_of b)) → IsOnEight b p
unfolding IsOnEight
any_eight b p a = at a.0 a.1 a.2 a.3 a.4
  where
    at : (k : ℕ) (z : Edge) → k < 8 → get_or (edges_of (corners_of b)) k z ≡ z → IsOn z p → IsOnEight b p
    at zero z l e q = inl (subst (on p) (sym e) q)
    at (suc zero) z l e q = inr (inl (subst (on p) (sym e) q))
    at (suc (suc zero)) z l e q = inr (inr (inl (subst (on p) (sym e) q)))
    at (suc (suc (suc zero))) z l e q = inr (inr (inr (inl (subst (on p) (sym e) q))))
    at (suc (suc (suc (suc zero)))) z l e q = inr (inr (inr (inr (inl (subst (on p) (sym e) q)))))
    at (suc (suc (suc (suc (suc zero))))) z l e q = inr (inr (inr (inr (inr (inl (subst (on p) (sym e) q))))))
    at (suc (suc (suc (suc (suc (suc zero)))))) z l e q = inr (inr (inr (inr (inr (inr (inl (subst (on p) (sym e) q)))))))
    at (suc (suc (suc (suc (suc (suc (suc zero))))))) z l e q = inr (inr (inr (inr (inr (inr (inr ((subst (on p) (sym e) q))))))))
    at (suc (suc (suc (suc (suc (suc (suc (suc k)))))))) z l e q = absurd (omega arith)

eight_any : (b : Bounds) (p : PlanePoint) → IsOnEight b p → Any (on p) (edges_of (corners_of b))
unfolding IsOnEight
eight_any b p (inl h) = (0, edge (c0 b) (c1 b), omega arith, refl, h)
eight_any b p (inr (inl h)) = (1, edge (c1 b) (c2 b), omega arith, refl, h)
eight_any b p (inr (inr (inl h))) = (2, edge (c2 b) (c3 b), omega arith, refl, h)
eight_any b p (inr (inr (inr (inl h)))) = (3, edge (c3 b) (c4 b), omega arith, refl, h)
eight_any b p (inr (inr (inr (inr (inl h))))) = (4, edge (c4 b) (c5 b), omega arith, refl, h)
eight_any b p (inr (inr (inr (inr (inr (inl h)))))) = (5, edge (c5 b) (c6 b), omega arith, refl, h)
eight_any b p (inr (inr (inr (inr (inr (inr (inl h))))))) = (6, edge (c6 b) (c7 b), omega arith, refl, h)
eight_any b p (inr (inr (inr (inr (inr (inr (inr (h)))))))) = (7, edge (c7 b) (c0 b), omega arith, refl, h)

-- in the octagon, and one of the bounds is met with equality
IsRim : Bounds → ℤ → ℤ → Type 0
IsRim b x y =
    Within b x y × ((y ≡ b.y0) ⊎ ((x -ℤ y ≡ b.d1) ⊎ ((x ≡ b.x1) ⊎ ((x +ℤ y ≡ b.s1)
    ⊎ ((y ≡ b.y1) ⊎ ((x -ℤ y ≡ b.d0) ⊎ ((x ≡ b.x0) ⊎ (x +ℤ y ≡ b.s0))))))))

abbrev within : (b : Bounds) (x y : ℤ) → b.x0 ≤ℤ x → x ≤ℤ b.x1 → b.y0 ≤ℤ y → y ≤ℤ b.y1 → b.s0 ≤ℤ (x +ℤ y) → (x +ℤ y) ≤ℤ b.s1 → b.d0 ≤ℤ (x -ℤ y) → (x -ℤ y) ≤ℤ b.d1 → Within b x y
within b x y h1 h2 h3 h4 h5 h6 h7 h8 = record { x_low = h1; x_high = h2; y_low = h3; y_high = h4; s_low = h5; s_high = h6; d_low = h7; d_high = h8 }

plus_minus : (a b : ℤ) → (a +ℤ b) -ℤ b ≡ a
plus_minus a b = omega (arith, ints)

plus_rest : (a b : ℤ) → a +ℤ (b -ℤ a) ≡ b
plus_rest a b = omega (arith, ints)

on_rim : (b : Bounds) (p : PlanePoint) → IsTight b → IsOnEight b p → IsRim (times p.scale b) p.x p.y
unfolding IsOnEight IsRim
on_rim b p t (inl o) =
    let s = IsTight-times p.scale b t in
    let z = on_level (edge (c0 b) (c1 b)) p refl o in
    let v = o.across in
    let m0 = mul_sub p.scale b.s0 b.y0 in
    let m1 = mul_add p.scale b.d1 b.y0 in
    (within (times p.scale b) p.x p.y (omega (arith, ints)) (omega (arith, ints)) (omega (arith, ints)) (omega (arith, ints)) (omega (arith, ints)) (omega (arith, ints)) (omega (arith, ints)) (omega (arith, ints)), inl z)
on_rim b p t (inr (inl o)) =
    let s = IsTight-times p.scale b t in
    let z = on_rise (edge (c1 b) (c2 b)) p (omega (arith, ints)) o ∙ ap (λ (z : ℤ). pos p.scale *ℤ z) (plus_minus b.d1 b.y0) in
    let v = o.along in
    let m0 = mul_sub p.scale b.x1 b.d1 in
    (within (times p.scale b) p.x p.y (omega (arith, ints)) (omega (arith, ints)) (omega (arith, ints)) (omega (arith, ints)) (omega (arith, ints)) (omega (arith, ints)) (omega (arith, ints)) (omega (arith, ints)), inr (inl z))
on_rim b p t (inr (inr (inl o))) =
    let s = IsTight-times p.scale b t in
    let z = on_upright (edge (c2 b) (c3 b)) p refl o in
    let v = o.along in
    let m0 = mul_sub p.scale b.x1 b.d1 in
    let m1 = mul_sub p.scale b.s1 b.x1 in
    (within (times p.scale b) p.x p.y (omega (arith, ints)) (omega (arith, ints)) (omega (arith, ints)) (omega (arith, ints)) (omega (arith, ints)) (omega (arith, ints)) (omega (arith, ints)) (omega (arith, ints)), inr (inr (inl z)))
on_rim b p t (inr (inr (inr (inl o)))) =
    let s = IsTight-times p.scale b t in
    let z = on_fall (edge (c3 b) (c4 b)) p (omega (arith, ints)) o ∙ ap (λ (z : ℤ). pos p.scale *ℤ z) (plus_rest b.x1 b.s1) in
    let v = o.along in
    let m0 = mul_sub p.scale b.s1 b.x1 in
    (within (times p.scale b) p.x p.y (omega (arith, ints)) (omega (arith, ints)) (omega (arith, ints)) (omega (arith, ints)) (omega (arith, ints)) (omega (arith, ints)) (omega (arith, ints)) (omega (arith, ints)), inr (inr (inr (inl z))))
on_rim b p t (inr (inr (inr (inr (inl o))))) =
    let s = IsTight-times p.scale b t in
    let z = on_level (edge (c4 b) (c5 b)) p refl o in
    let v = o.across in
    let m0 = mul_sub p.scale b.s1 b.y1 in
    let m1 = mul_add p.scale b.d0 b.y1 in
    (within (times p.scale b) p.x p.y (omega (arith, ints)) (omega (arith, ints)) (omega (arith, ints)) (omega (arith, ints)) (omega (arith, ints)) (omega (arith, ints)) (omega (arith, ints)) (omega (arith, ints)), inr (inr (inr (inr (inl z)))))
on_rim b p t (inr (inr (inr (inr (inr (inl o)))))) =
    let s = IsTight-times p.scale b t in
    let z = on_rise (edge (c5 b) (c6 b)) p (omega (arith, ints)) o ∙ ap (λ (z : ℤ). pos p.scale *ℤ z) (plus_minus b.d0 b.y1) in
    let v = o.along in
    let m0 = mul_sub p.scale b.x0 b.d0 in
    (within (times p.scale b) p.x p.y (omega (arith, ints)) (omega (arith, ints)) (omega (arith, ints)) (omega (arith, ints)) (omega (arith, ints)) (omega (arith, ints)) (omega (arith, ints)) (omega (arith, ints)), inr (inr (inr (inr (inr (inl z))))))
on_rim b p t (inr (inr (inr (inr (inr (inr (inl o))))))) =
    let s = IsTight-times p.scale b t in
    let z = on_upright (edge (c6 b) (c7 b)) p refl o in
    let v = o.along in
    let m0 = mul_sub p.scale b.x0 b.d0 in
    let m1 = mul_sub p.scale b.s0 b.x0 in
    (within (times p.scale b) p.x p.y (omega (arith, ints)) (omega (arith, ints)) (omega (arith, ints)) (omega (arith, ints)) (omega (arith, ints)) (omega (arith, ints)) (omega (arith, ints)) (omega (arith, ints)), inr (inr (inr (inr (inr (inr (inl z)))))))
on_rim b p t (inr (inr (inr (inr (inr (inr (inr o))))))) =
    let s = IsTight-times p.scale b t in
    let z = on_fall (edge (c7 b) (c0 b)) p (omega (arith, ints)) o ∙ ap (λ (z : ℤ). pos p.scale *ℤ z) (plus_rest b.x0 b.s0) in
    let v = o.along in
    let m0 = mul_sub p.scale b.s0 b.x0 in
    (within (times p.scale b) p.x p.y (omega (arith, ints)) (omega (arith, ints)) (omega (arith, ints)) (omega (arith, ints)) (omega (arith, ints)) (omega (arith, ints)) (omega (arith, ints)) (omega (arith, ints)), inr (inr (inr (inr (inr (inr (inr z)))))))

rim_on : (b : Bounds) (p : PlanePoint) → IsTight b → IsRim (times p.scale b) p.x p.y → IsOnEight b p
unfolding IsOnEight IsRim
rim_on b p t (w, inl o) =
    let s = IsTight-times p.scale b t in
    let m0 = mul_sub p.scale b.s0 b.y0 in
    let m1 = mul_add p.scale b.d1 b.y0 in
    inl (level_on (edge (c0 b) (c1 b)) p refl o (inl (omega (arith, ints), omega (arith, ints))))
rim_on b p t (w, inr (inl o)) =
    let s = IsTight-times p.scale b t in
    let m0 = mul_sub p.scale b.x1 b.d1 in
    inr (inl (rise_on (edge (c1 b) (c2 b)) p (omega (arith, ints)) (o ∙ sym (ap (λ (z : ℤ). pos p.scale *ℤ z) (plus_minus b.d1 b.y0))) (inl (omega (arith, ints), omega (arith, ints)))))
rim_on b p t (w, inr (inr (inl o))) =
    let s = IsTight-times p.scale b t in
    let m0 = mul_sub p.scale b.x1 b.d1 in
    let m1 = mul_sub p.scale b.s1 b.x1 in
    inr (inr (inl (upright_on (edge (c2 b) (c3 b)) p refl o (inl (omega (arith, ints), omega (arith, ints))))))
rim_on b p t (w, inr (inr (inr (inl o)))) =
    let s = IsTight-times p.scale b t in
    let m0 = mul_sub p.scale b.s1 b.x1 in
    inr (inr (inr (inl (fall_on (edge (c3 b) (c4 b)) p (omega (arith, ints)) (o ∙ sym (ap (λ (z : ℤ). pos p.scale *ℤ z) (plus_rest b.x1 b.s1))) (inl (omega (arith, ints), omega (arith, ints)))))))
rim_on b p t (w, inr (inr (inr (inr (inl o))))) =
    let s = IsTight-times p.scale b t in
    let m0 = mul_sub p.scale b.s1 b.y1 in
    let m1 = mul_add p.scale b.d0 b.y1 in
    inr (inr (inr (inr (inl (level_on (edge (c4 b) (c5 b)) p refl o (inr (omega (arith, ints), omega (arith, ints))))))))
rim_on b p t (w, inr (inr (inr (inr (inr (inl o)))))) =
    let s = IsTight-times p.scale b t in
    let m0 = mul_sub p.scale b.x0 b.d0 in
    inr (inr (inr (inr (inr (inl (rise_on (edge (c5 b) (c6 b)) p (omega (arith, ints)) (o ∙ sym (ap (λ (z : ℤ). pos p.scale *ℤ z) (plus_minus b.d0 b.y1))) (inr (omega (arith, ints), omega (arith, ints)))))))))
rim_on b p t (w, inr (inr (inr (inr (inr (inr (inl o))))))) =
    let s = IsTight-times p.scale b t in
    let m0 = mul_sub p.scale b.x0 b.d0 in
    let m1 = mul_sub p.scale b.s0 b.x0 in
    inr (inr (inr (inr (inr (inr (inl (upright_on (edge (c6 b) (c7 b)) p refl o (inr (omega (arith, ints), omega (arith, ints))))))))))
rim_on b p t (w, inr (inr (inr (inr (inr (inr (inr o))))))) =
    let s = IsTight-times p.scale b t in
    let m0 = mul_sub p.scale b.s0 b.x0 in
    inr (inr (inr (inr (inr (inr (inr ((fall_on (edge (c7 b) (c0 b)) p (omega (arith, ints)) (o ∙ sym (ap (λ (z : ℤ). pos p.scale *ℤ z) (plus_rest b.x0 b.s0))) (inr (omega (arith, ints), omega (arith, ints)))))))))))

-- ---- the laws
within_cases : (b : Bounds) (x y : ℤ) → Within b x y → IsRim b x y ⊎ StrictlyWithin b x y
unfolding IsRim
within_cases b x y w =
    by_lt_z {P = (Within b x y × ((y ≡ b.y0) ⊎ ((x -ℤ y ≡ b.d1) ⊎ ((x ≡ b.x1) ⊎ ((x +ℤ y ≡ b.s1) ⊎ ((y ≡ b.y1) ⊎ ((x -ℤ y ≡ b.d0) ⊎ ((x ≡ b.x0) ⊎ (x +ℤ y ≡ b.s0))))))))) ⊎ StrictlyWithin b x y} b.y0 y (λ a1.
    by_lt_z {P = (Within b x y × ((y ≡ b.y0) ⊎ ((x -ℤ y ≡ b.d1) ⊎ ((x ≡ b.x1) ⊎ ((x +ℤ y ≡ b.s1) ⊎ ((y ≡ b.y1) ⊎ ((x -ℤ y ≡ b.d0) ⊎ ((x ≡ b.x0) ⊎ (x +ℤ y ≡ b.s0))))))))) ⊎ StrictlyWithin b x y} (x -ℤ y) b.d1 (λ a2.
    by_lt_z {P = (Within b x y × ((y ≡ b.y0) ⊎ ((x -ℤ y ≡ b.d1) ⊎ ((x ≡ b.x1) ⊎ ((x +ℤ y ≡ b.s1) ⊎ ((y ≡ b.y1) ⊎ ((x -ℤ y ≡ b.d0) ⊎ ((x ≡ b.x0) ⊎ (x +ℤ y ≡ b.s0))))))))) ⊎ StrictlyWithin b x y} x b.x1 (λ a3.
    by_lt_z {P = (Within b x y × ((y ≡ b.y0) ⊎ ((x -ℤ y ≡ b.d1) ⊎ ((x ≡ b.x1) ⊎ ((x +ℤ y ≡ b.s1) ⊎ ((y ≡ b.y1) ⊎ ((x -ℤ y ≡ b.d0) ⊎ ((x ≡ b.x0) ⊎ (x +ℤ y ≡ b.s0))))))))) ⊎ StrictlyWithin b x y} (x +ℤ y) b.s1 (λ a4.
    by_lt_z {P = (Within b x y × ((y ≡ b.y0) ⊎ ((x -ℤ y ≡ b.d1) ⊎ ((x ≡ b.x1) ⊎ ((x +ℤ y ≡ b.s1) ⊎ ((y ≡ b.y1) ⊎ ((x -ℤ y ≡ b.d0) ⊎ ((x ≡ b.x0) ⊎ (x +ℤ y ≡ b.s0))))))))) ⊎ StrictlyWithin b x y} y b.y1 (λ a5.
    by_lt_z {P = (Within b x y × ((y ≡ b.y0) ⊎ ((x -ℤ y ≡ b.d1) ⊎ ((x ≡ b.x1) ⊎ ((x +ℤ y ≡ b.s1) ⊎ ((y ≡ b.y1) ⊎ ((x -ℤ y ≡ b.d0) ⊎ ((x ≡ b.x0) ⊎ (x +ℤ y ≡ b.s0))))))))) ⊎ StrictlyWithin b x y} b.d0 (x -ℤ y) (λ a6.
    by_lt_z {P = (Within b x y × ((y ≡ b.y0) ⊎ ((x -ℤ y ≡ b.d1) ⊎ ((x ≡ b.x1) ⊎ ((x +ℤ y ≡ b.s1) ⊎ ((y ≡ b.y1) ⊎ ((x -ℤ y ≡ b.d0) ⊎ ((x ≡ b.x0) ⊎ (x +ℤ y ≡ b.s0))))))))) ⊎ StrictlyWithin b x y} b.x0 x (λ a7.
    by_lt_z {P = (Within b x y × ((y ≡ b.y0) ⊎ ((x -ℤ y ≡ b.d1) ⊎ ((x ≡ b.x1) ⊎ ((x +ℤ y ≡ b.s1) ⊎ ((y ≡ b.y1) ⊎ ((x -ℤ y ≡ b.d0) ⊎ ((x ≡ b.x0) ⊎ (x +ℤ y ≡ b.s0))))))))) ⊎ StrictlyWithin b x y} b.s0 (x +ℤ y) (λ a8.
    inr (record { x_low = a7; x_high = a3; y_low = a1; y_high = a5; s_low = a8; s_high = a4; d_low = a6; d_high = a2 }))
    (λ l. inl (w, inr (inr (inr (inr (inr (inr (inr ((omega (arith, ints))))))))))))
    (λ l. inl (w, inr (inr (inr (inr (inr (inr (inl (omega (arith, ints)))))))))))
    (λ l. inl (w, inr (inr (inr (inr (inr (inl (omega (arith, ints))))))))))
    (λ l. inl (w, inr (inr (inr (inr (inl (omega (arith, ints)))))))))
    (λ l. inl (w, inr (inr (inr (inl (omega (arith, ints))))))))
    (λ l. inl (w, inr (inr (inl (omega (arith, ints)))))))
    (λ l. inl (w, inr (inl (omega (arith, ints))))))
    (λ l. inl (w, inl (omega (arith, ints))))

rim_in : (b : Bounds) (p : PlanePoint) → IsRim (times p.scale b) p.x p.y → In b p
unfolding IsRim
rim_in b p r = r.0

half_in : (b : Bounds) (p : PlanePoint) → IsHalf (times p.scale b) p.x p.y → In b p
unfolding IsHalf
half_in b p h = omega (arith, ints)

strict_half : (b : Bounds) (x y : ℤ) → StrictlyWithin b x y → IsHalf b x y
unfolding IsHalf
strict_half b x y h = omega (arith, ints)

strict_rim : (b : Bounds) (x y : ℤ) → StrictlyWithin b x y → IsRim b x y → ⊥
unfolding IsRim
strict_rim b x y h r = let e = r.1 in omega (arith, ints)

pub corners_law : CornersLaw
corners_law b p t = (to, from)
  where
    to : Covers (edges_of (corners_of b)) p → In b p
    to c =
        elim (covers_cases (edges_of (corners_of b)) p c) [
          | inl a ↦ rim_in b p (on_rim b p t (any_eight b p a))
          | inr o ↦ half_in b p (odd_half (times p.scale b) p.x p.y (left_of b p) (right_of b p) (IsTight-times p.scale b t) (counts_left b p t) (counts_right b p t) (subst IsOdd (both_sides b p t) o))
        ]

    from : In b p → Covers (edges_of (corners_of b)) p
    from w =
        elim (within_cases (times p.scale b) p.x p.y w) [
          | inl r ↦ covers_on (edges_of (corners_of b)) p (eight_any b p (rim_on b p t r))
          | inr h ↦
              covers_odd (edges_of (corners_of b)) p (subst IsOdd (sym (both_sides b p t))
              (half_odd (times p.scale b) p.x p.y (left_of b p) (right_of b p) (counts_left b p t) (counts_right b p t) (strict_half (times p.scale b) p.x p.y h)))
        ]

pub strict_corners_law : StrictCornersLaw
strict_corners_law b p t = (to, from)
  where
    to : StrictlyCovers (edges_of (corners_of b)) p → StrictlyIn b p
    to s =
        elim (within_cases (times p.scale b) p.x p.y ((corners_law b p t).0 (covers_odd (edges_of (corners_of b)) p s.odd))) [
          | inl r ↦ absurd (s.off (eight_any b p (rim_on b p t r)))
          | inr h ↦ h
        ]

    from : StrictlyIn b p → StrictlyCovers (edges_of (corners_of b)) p
    from h = record {
      odd = subst IsOdd (sym (both_sides b p t))
          (half_odd (times p.scale b) p.x p.y (left_of b p) (right_of b p) (counts_left b p t) (counts_right b p t) (strict_half (times p.scale b) p.x p.y h));
      off = λ a. strict_rim (times p.scale b) p.x p.y h (on_rim b p t (any_eight b p a));
    }
