-- Grid points of an octagon, as points of the plane and by tests.
use Rattle.std.proofs.Common.{◌⊎◌, inl, inr, arith}
use Rattle.std.specs.Prelude.{ℤ, ◌+ℤ◌, ◌-ℤ◌, ◌≤ℤ◌}
use Rattle.std.proofs.lemmas.Int.{ints, by_lt_z}
use Rattle.plane.specs.Plane.{Bounds, Within, In, IsOct, grid_point}
use Rattle.grid_num.specs.declared.Point.{Point}
use Rattle.octagon.specs.Bounded.{IsInReach}

pub In-within : (b : Bounds) (x y : ℤ) → In b (grid_point x y) → Within b x y
In-within b x y w = record { x_low = omega (arith, ints); x_high = omega (arith, ints); y_low = omega (arith, ints); y_high = omega (arith, ints); s_low = omega (arith, ints); s_high = omega (arith, ints); d_low = omega (arith, ints); d_high = omega (arith, ints) }

pub within-In : (b : Bounds) (x y : ℤ) → Within b x y → In b (grid_point x y)
within-In b x y w = record { x_low = omega (arith, ints); x_high = omega (arith, ints); y_low = omega (arith, ints); y_high = omega (arith, ints); s_low = omega (arith, ints); s_high = omega (arith, ints); d_low = omega (arith, ints); d_high = omega (arith, ints) }

-- between two bounds, or not
record IsBetween (a z b : ℤ) : Type 0 where
  low : a ≤ℤ z
  high : z ≤ℤ b

between : (a z b : ℤ) → IsBetween a z b ⊎ (IsBetween a z b → ⊥)
between a z b =
    by_lt_z {P = IsBetween a z b ⊎ (IsBetween a z b → ⊥)} z a
    (λ l. inr (λ k. omega (arith, ints)))
    (λ l. by_lt_z {P = IsBetween a z b ⊎ (IsBetween a z b → ⊥)} b z (λ m. inr (λ k. omega (arith, ints))) (λ m. inl (record { low = l; high = m })))

pub within_or_not : (o : Bounds) (x y : ℤ) → Within o x y ⊎ (Within o x y → ⊥)
within_or_not o x y = elim (between o.x0 x o.x1) [
  | inr n ↦ inr (λ w. n (record { low = w.x_low; high = w.x_high }))
  | inl a ↦ elim (between o.y0 y o.y1) [
    | inr n ↦ inr (λ w. n (record { low = w.y_low; high = w.y_high }))
    | inl b ↦ elim (between o.s0 (x +ℤ y) o.s1) [
      | inr n ↦ inr (λ w. n (record { low = w.s_low; high = w.s_high }))
      | inl c ↦ elim (between o.d0 (x -ℤ y) o.d1) [
        | inr n ↦ inr (λ w. n (record { low = w.d_low; high = w.d_high }))
        | inl d ↦ inl (record { x_low = a.low; x_high = a.high; y_low = b.low; y_high = b.high; s_low = c.low; s_high = c.high; d_low = d.low; d_high = d.high })
      ]
    ]
  ]
]

-- a point in the box of an octagon is within reach
pub box_reach : (o : Bounds) (p : Point) → IsOct o → (o.x0 ≤ℤ p.x) × (p.x ≤ℤ o.x1) → (o.y0 ≤ℤ p.y) × (p.y ≤ℤ o.y1) → IsInReach p
box_reach o p h x y = record { x = record { low = omega (arith, ints); high = omega (arith, ints) }; y = record { low = omega (arith, ints); high = omega (arith, ints) } }
