-- An area comes close to the origin, by the decision, exactly where a point of it is within reach.
use Rattle.std.proofs.Common.{◌≡◌, ℕ, ◌*◌, inl, inr, ⊎_elim, arith, sym, subst, lit≤, ◌∙◌}
use Rattle.std.specs.Prelude.{ℤ, pos, ◌+ℤ◌, ◌-ℤ◌, ◌*ℤ◌, ◌≤ℤ◌}
use Rattle.std.proofs.lemmas.Int.{ints}
use Rattle.touching.specs.Inner.Decision.{IsSideClose, IsOriginClose}
use Rattle.touching.proofs.Ring.{square_sum, square_diff}
use Rattle.touching.proofs.Short.{IsShort, shrunk}
use Rattle.touching.proofs.Side.{side_test}
use Rattle.touching.proofs.Leave.{OnBound, Leaves, leave}
use Rattle.plane.specs.Plane.{PlanePoint, Bounds, In, Within, IsTight, grid_point}
use Rattle.grid_num.proofs.Products.{mul_add, mul_sub}

module _ (a : ℕ) (b : Bounds) (p : PlanePoint) (h : In b p) (c : IsShort a p.scale p.x p.y) where
  straight : (p.x *ℤ p.x +ℤ p.y *ℤ p.y) ≤ℤ pos (a * (p.scale * p.scale))
  straight = omega (arith, ints)

  turned : (p.y *ℤ p.y +ℤ p.x *ℤ p.x) ≤ℤ pos (a * (p.scale * p.scale))
  turned = omega (arith, ints)

  by_sum : ((p.x +ℤ p.y) *ℤ (p.x +ℤ p.y) +ℤ (p.x -ℤ p.y) *ℤ (p.x -ℤ p.y)) ≤ℤ pos ((2 * a) * (p.scale * p.scale))
  by_sum = omega (arith, ints, square_sum p.x p.y, square_diff p.x p.y)

  by_diff : ((p.x -ℤ p.y) *ℤ (p.x -ℤ p.y) +ℤ (p.x +ℤ p.y) *ℤ (p.x +ℤ p.y)) ≤ℤ pos ((2 * a) * (p.scale * p.scale))
  by_diff = omega (arith, ints, square_sum p.x p.y, square_diff p.x p.y)

  bound_test : OnBound b p → IsOriginClose a b
  unfolding OnBound IsOriginClose
  bound_test (inl e) = inr (inl (side_test a p.scale b.x0 (b.s0 -ℤ b.x0) (b.x0 -ℤ b.d0) p.x p.y p.positive e
      (omega (arith, ints, e, h.s_low, mul_sub p.scale b.s0 b.x0)) (omega (arith, ints, e, h.d_low, mul_sub p.scale b.x0 b.d0)) straight))
  bound_test (inr (inl e)) = inr (inr (inl (side_test a p.scale b.x1 (b.x1 -ℤ b.d1) (b.s1 -ℤ b.x1) p.x p.y p.positive e
      (omega (arith, ints, e, h.d_high, mul_sub p.scale b.x1 b.d1)) (omega (arith, ints, e, h.s_high, mul_sub p.scale b.s1 b.x1)) straight)))
  bound_test (inr (inr (inl e))) = inr (inr (inr (inl (side_test a p.scale b.y0 (b.s0 -ℤ b.y0) (b.d1 +ℤ b.y0) p.y p.x p.positive e
      (omega (arith, ints, e, h.s_low, mul_sub p.scale b.s0 b.y0)) (omega (arith, ints, e, h.d_high, mul_add p.scale b.d1 b.y0)) turned))))
  bound_test (inr (inr (inr (inl e)))) = inr (inr (inr (inr (inl (side_test a p.scale b.y1 (b.d0 +ℤ b.y1) (b.s1 -ℤ b.y1) p.y p.x p.positive e
      (omega (arith, ints, e, h.d_low, mul_add p.scale b.d0 b.y1)) (omega (arith, ints, e, h.s_high, mul_sub p.scale b.s1 b.y1)) turned)))))
  bound_test (inr (inr (inr (inr (inl e))))) = inr (inr (inr (inr (inr (inl (side_test (2 * a) p.scale b.s0 (b.x0 +ℤ b.x0 -ℤ b.s0) (b.s0 -ℤ (b.y0 +ℤ b.y0)) (p.x +ℤ p.y) (p.x -ℤ p.y) p.positive e
      (omega (arith, ints, e, h.x_low, mul_sub p.scale (b.x0 +ℤ b.x0) b.s0, mul_add p.scale b.x0 b.x0))
      (omega (arith, ints, e, h.y_low, mul_sub p.scale b.s0 (b.y0 +ℤ b.y0), mul_add p.scale b.y0 b.y0)) by_sum))))))
  bound_test (inr (inr (inr (inr (inr (inl e)))))) = inr (inr (inr (inr (inr (inr (inl (side_test (2 * a) p.scale b.s1 (b.s1 -ℤ (b.y1 +ℤ b.y1)) (b.x1 +ℤ b.x1 -ℤ b.s1) (p.x +ℤ p.y) (p.x -ℤ p.y) p.positive e
      (omega (arith, ints, e, h.y_high, mul_sub p.scale b.s1 (b.y1 +ℤ b.y1), mul_add p.scale b.y1 b.y1))
      (omega (arith, ints, e, h.x_high, mul_sub p.scale (b.x1 +ℤ b.x1) b.s1, mul_add p.scale b.x1 b.x1)) by_sum)))))))
  bound_test (inr (inr (inr (inr (inr (inr (inl e))))))) = inr (inr (inr (inr (inr (inr (inr (inl (side_test (2 * a) p.scale b.d0 (b.x0 +ℤ b.x0 -ℤ b.d0) (b.y1 +ℤ b.y1 +ℤ b.d0) (p.x -ℤ p.y) (p.x +ℤ p.y) p.positive e
      (omega (arith, ints, e, h.x_low, mul_sub p.scale (b.x0 +ℤ b.x0) b.d0, mul_add p.scale b.x0 b.x0))
      (omega (arith, ints, e, h.y_high, mul_add p.scale (b.y1 +ℤ b.y1) b.d0, mul_add p.scale b.y1 b.y1)) by_diff))))))))
  bound_test (inr (inr (inr (inr (inr (inr (inr e))))))) = inr (inr (inr (inr (inr (inr (inr (inr (side_test (2 * a) p.scale b.d1 (b.y0 +ℤ b.y0 +ℤ b.d1) (b.x1 +ℤ b.x1 -ℤ b.d1) (p.x -ℤ p.y) (p.x +ℤ p.y) p.positive e
      (omega (arith, ints, e, h.y_low, mul_add p.scale (b.y0 +ℤ b.y0) b.d1, mul_add p.scale b.y0 b.y0))
      (omega (arith, ints, e, h.x_high, mul_sub p.scale (b.x1 +ℤ b.x1) b.d1, mul_add p.scale b.x1 b.x1)) by_diff))))))))

-- a point of the octagon within reach of the origin makes the test true
pub origin_test : (a : ℕ) (b : Bounds) (p : PlanePoint) → In b p → IsShort a p.scale p.x p.y → IsOriginClose a b
unfolding IsOriginClose
origin_test a b p h c =
    ⊎_elim {C = IsOriginClose a b}
    (λ (z : In b (grid_point (pos 0) (pos 0))). inl (record {
      x_low = omega (arith, ints, z.x_low);
      x_high = omega (arith, ints, z.x_high);
      y_low = omega (arith, ints, z.y_low);
      y_high = omega (arith, ints, z.y_high);
      s_low = omega (arith, ints, z.s_low);
      s_high = omega (arith, ints, z.s_high);
      d_low = omega (arith, ints, z.d_low);
      d_high = omega (arith, ints, z.d_high);
    }))
    (λ (l : Leaves b p (grid_point (pos 0) (pos 0))).
    let s = shrunk a p.scale l.at.scale l.u p.x p.y (omega (arith, l.scale)) c in
    let ex : l.at.x ≡ pos l.u *ℤ p.x = l.x ∙ omega (arith, ints) in
    let ey : l.at.y ≡ pos l.u *ℤ p.y = l.y ∙ omega (arith, ints) in
    bound_test a b l.at l.inside
    (subst (λ (z : ℤ). IsShort a l.at.scale z l.at.y) (sym ex) (subst (λ (z : ℤ). IsShort a l.at.scale (pos l.u *ℤ p.x) z) (sym ey) s))
    l.on)
    (leave b p (grid_point (pos 0) (pos 0)) h)

side_found : (a : ℕ) (c low high : ℤ) → low ≤ℤ high → IsSideClose a c low high → (y : ℤ) × (low ≤ℤ y) × (y ≤ℤ high) × ((c *ℤ c +ℤ y *ℤ y) ≤ℤ pos a)
unfolding IsSideClose
side_found a c low high l (inl h) = (pos 0, h.0, h.1, omega (arith, ints, h.2))
side_found a c low high l (inr (inl h)) = (low, omega (arith, ints), l, h.1)
side_found a c low high l (inr (inr h)) = (high, l, omega (arith, ints), h.1)

-- a point of the area within reach of the origin
unfoldable pub Found : ℕ → Bounds → Type 0
Found a b = (p : PlanePoint) × In b p × IsShort a p.scale p.x p.y

once : (b : Bounds) (x y : ℤ) → Within b x y → In b (grid_point x y)
once b x y h = record {
  x_low = omega (arith, ints, h.x_low);
  x_high = omega (arith, ints, h.x_high);
  y_low = omega (arith, ints, h.y_low);
  y_high = omega (arith, ints, h.y_high);
  s_low = omega (arith, ints, h.s_low);
  s_high = omega (arith, ints, h.s_high);
  d_low = omega (arith, ints, h.d_low);
  d_high = omega (arith, ints, h.d_high);
}

on_grid : (a : ℕ) (b : Bounds) (x y : ℤ) → Within b x y → (x *ℤ x +ℤ y *ℤ y) ≤ℤ pos a → Found a b
unfolding Found
on_grid a b x y h c = (grid_point x y, once b x y h, omega (arith, ints))

-- the point with x + y = s and x - y = d
halved : (a : ℕ) (b : Bounds) (s d : ℤ)
    → ((b.x0 +ℤ b.x0) ≤ℤ (s +ℤ d)) × ((s +ℤ d) ≤ℤ (b.x1 +ℤ b.x1)) × ((b.y0 +ℤ b.y0) ≤ℤ (s -ℤ d)) × ((s -ℤ d) ≤ℤ (b.y1 +ℤ b.y1))
    → (b.s0 ≤ℤ s) × (s ≤ℤ b.s1) × (b.d0 ≤ℤ d) × (d ≤ℤ b.d1)
    → (s *ℤ s +ℤ d *ℤ d) ≤ℤ pos (2 * a) → Found a b
unfolding Found
halved a b s d h k c = (
  record { x = s +ℤ d; y = s -ℤ d; scale = 2; positive = lit≤ tt },
  record {
    x_low = omega (arith, ints, h.0);
    x_high = omega (arith, ints, h.1);
    y_low = omega (arith, ints, h.2);
    y_high = omega (arith, ints, h.3);
    s_low = omega (arith, ints, k.0);
    s_high = omega (arith, ints, k.1);
    d_low = omega (arith, ints, k.2);
    d_high = omega (arith, ints, k.3);
  },
  omega (arith, ints, square_sum s d, square_diff s d),
)

module _ (a : ℕ) (b : Bounds) (t : IsTight b) where
  within : (x y : ℤ) → (b.x0 ≤ℤ x) × (x ≤ℤ b.x1) × (b.y0 ≤ℤ y) × (y ≤ℤ b.y1) → (b.s0 ≤ℤ (x +ℤ y)) × ((x +ℤ y) ≤ℤ b.s1) × (b.d0 ≤ℤ (x -ℤ y)) × ((x -ℤ y) ≤ℤ b.d1)
      → Within b x y
  within x y h k = record { x_low = h.0; x_high = h.1; y_low = h.2; y_high = h.3; s_low = k.0; s_high = k.1; d_low = k.2; d_high = k.3 }

  left_found : IsSideClose a b.x0 (b.s0 -ℤ b.x0) (b.x0 -ℤ b.d0) → Found a b
  left_found h =
      let f = side_found a b.x0 (b.s0 -ℤ b.x0) (b.x0 -ℤ b.d0) (omega (arith, ints, t)) h in
      on_grid a b b.x0 f.0 (within b.x0 f.0 (omega (arith, ints, f.1, f.2, t), omega (arith, ints, f.1, f.2, t), omega (arith, ints, f.1, f.2, t), omega (arith, ints, f.1, f.2, t)) (omega (arith, ints, f.1, f.2, t), omega (arith, ints, f.1, f.2, t), omega (arith, ints, f.1, f.2, t), omega (arith, ints, f.1, f.2, t))) f.3

  right_found : IsSideClose a b.x1 (b.x1 -ℤ b.d1) (b.s1 -ℤ b.x1) → Found a b
  right_found h =
      let f = side_found a b.x1 (b.x1 -ℤ b.d1) (b.s1 -ℤ b.x1) (omega (arith, ints, t)) h in
      on_grid a b b.x1 f.0 (within b.x1 f.0 (omega (arith, ints, f.1, f.2, t), omega (arith, ints, f.1, f.2, t), omega (arith, ints, f.1, f.2, t), omega (arith, ints, f.1, f.2, t)) (omega (arith, ints, f.1, f.2, t), omega (arith, ints, f.1, f.2, t), omega (arith, ints, f.1, f.2, t), omega (arith, ints, f.1, f.2, t))) f.3

  top_found : IsSideClose a b.y0 (b.s0 -ℤ b.y0) (b.d1 +ℤ b.y0) → Found a b
  top_found h =
      let f = side_found a b.y0 (b.s0 -ℤ b.y0) (b.d1 +ℤ b.y0) (omega (arith, ints, t)) h in
      on_grid a b f.0 b.y0 (within f.0 b.y0 (omega (arith, ints, f.1, f.2, t), omega (arith, ints, f.1, f.2, t), omega (arith, ints, f.1, f.2, t), omega (arith, ints, f.1, f.2, t)) (omega (arith, ints, f.1, f.2, t), omega (arith, ints, f.1, f.2, t), omega (arith, ints, f.1, f.2, t), omega (arith, ints, f.1, f.2, t))) (omega (arith, ints, f.3))

  bottom_found : IsSideClose a b.y1 (b.d0 +ℤ b.y1) (b.s1 -ℤ b.y1) → Found a b
  bottom_found h =
      let f = side_found a b.y1 (b.d0 +ℤ b.y1) (b.s1 -ℤ b.y1) (omega (arith, ints, t)) h in
      on_grid a b f.0 b.y1 (within f.0 b.y1 (omega (arith, ints, f.1, f.2, t), omega (arith, ints, f.1, f.2, t), omega (arith, ints, f.1, f.2, t), omega (arith, ints, f.1, f.2, t)) (omega (arith, ints, f.1, f.2, t), omega (arith, ints, f.1, f.2, t), omega (arith, ints, f.1, f.2, t), omega (arith, ints, f.1, f.2, t))) (omega (arith, ints, f.3))

  top_left_found : IsSideClose (2 * a) b.s0 (b.x0 +ℤ b.x0 -ℤ b.s0) (b.s0 -ℤ (b.y0 +ℤ b.y0)) → Found a b
  top_left_found h =
      let f = side_found (2 * a) b.s0 (b.x0 +ℤ b.x0 -ℤ b.s0) (b.s0 -ℤ (b.y0 +ℤ b.y0)) (omega (arith, ints, t)) h in
      halved a b b.s0 f.0 (omega (arith, ints, f.1, f.2, t), omega (arith, ints, f.1, f.2, t), omega (arith, ints, f.1, f.2, t), omega (arith, ints, f.1, f.2, t)) (omega (arith, ints, f.1, f.2, t), omega (arith, ints, f.1, f.2, t), omega (arith, ints, f.1, f.2, t), omega (arith, ints, f.1, f.2, t)) f.3

  bottom_right_found : IsSideClose (2 * a) b.s1 (b.s1 -ℤ (b.y1 +ℤ b.y1)) (b.x1 +ℤ b.x1 -ℤ b.s1) → Found a b
  bottom_right_found h =
      let f = side_found (2 * a) b.s1 (b.s1 -ℤ (b.y1 +ℤ b.y1)) (b.x1 +ℤ b.x1 -ℤ b.s1) (omega (arith, ints, t)) h in
      halved a b b.s1 f.0 (omega (arith, ints, f.1, f.2, t), omega (arith, ints, f.1, f.2, t), omega (arith, ints, f.1, f.2, t), omega (arith, ints, f.1, f.2, t)) (omega (arith, ints, f.1, f.2, t), omega (arith, ints, f.1, f.2, t), omega (arith, ints, f.1, f.2, t), omega (arith, ints, f.1, f.2, t)) f.3

  bottom_left_found : IsSideClose (2 * a) b.d0 (b.x0 +ℤ b.x0 -ℤ b.d0) (b.y1 +ℤ b.y1 +ℤ b.d0) → Found a b
  bottom_left_found h =
      let f = side_found (2 * a) b.d0 (b.x0 +ℤ b.x0 -ℤ b.d0) (b.y1 +ℤ b.y1 +ℤ b.d0) (omega (arith, ints, t)) h in
      halved a b f.0 b.d0 (omega (arith, ints, f.1, f.2, t), omega (arith, ints, f.1, f.2, t), omega (arith, ints, f.1, f.2, t), omega (arith, ints, f.1, f.2, t)) (omega (arith, ints, f.1, f.2, t), omega (arith, ints, f.1, f.2, t), omega (arith, ints, f.1, f.2, t), omega (arith, ints, f.1, f.2, t)) (omega (arith, ints, f.3))

  top_right_found : IsSideClose (2 * a) b.d1 (b.y0 +ℤ b.y0 +ℤ b.d1) (b.x1 +ℤ b.x1 -ℤ b.d1) → Found a b
  top_right_found h =
      let f = side_found (2 * a) b.d1 (b.y0 +ℤ b.y0 +ℤ b.d1) (b.x1 +ℤ b.x1 -ℤ b.d1) (omega (arith, ints, t)) h in
      halved a b f.0 b.d1 (omega (arith, ints, f.1, f.2, t), omega (arith, ints, f.1, f.2, t), omega (arith, ints, f.1, f.2, t), omega (arith, ints, f.1, f.2, t)) (omega (arith, ints, f.1, f.2, t), omega (arith, ints, f.1, f.2, t), omega (arith, ints, f.1, f.2, t), omega (arith, ints, f.1, f.2, t)) (omega (arith, ints, f.3))

  pub test_origin : IsOriginClose a b → Found a b
  unfolding IsOriginClose
  test_origin (inl h) = on_grid a b (pos 0) (pos 0) h (omega (arith, ints))
  test_origin (inr (inl h)) = left_found h
  test_origin (inr (inr (inl h))) = right_found h
  test_origin (inr (inr (inr (inl h)))) = top_found h
  test_origin (inr (inr (inr (inr (inl h))))) = bottom_found h
  test_origin (inr (inr (inr (inr (inr (inl h)))))) = top_left_found h
  test_origin (inr (inr (inr (inr (inr (inr (inl h))))))) = bottom_right_found h
  test_origin (inr (inr (inr (inr (inr (inr (inr (inl h)))))))) = bottom_left_found h
  test_origin (inr (inr (inr (inr (inr (inr (inr (inr h)))))))) = top_right_found h
