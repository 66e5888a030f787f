-- The two sides of a tight octagon by the crossings of their three edges.
use Rattle.std.proofs.Common.{◌≡◌, ℕ, ◌+◌, ◌⊎◌, inl, inr, arith}
use Rattle.std.specs.Prelude.{ℤ, ◌+ℤ◌, ◌-ℤ◌, ◌≤ℤ◌, ◌<ℤ◌}
use Rattle.std.proofs.lemmas.Int.{ints, by_lt_z}
use Rattle.plane.specs.Plane.{Bounds, IsTight}
use Rattle.plane.proofs.Counts.{Counts}

-- n counts whether y is from the top to the bottom, and the point is beyond all three left bounds
abbrev pub CountsLeft : ℕ → Bounds → ℤ → ℤ → Type 0
CountsLeft n b x y =
    ((n ≡ 1) × (b.y0 ≤ℤ y) × (y <ℤ b.y1) × (b.s0 <ℤ (x +ℤ y)) × (b.x0 <ℤ x) × (b.d0 <ℤ (x -ℤ y)))
    ⊎ ((n ≡ 0) × ((y <ℤ b.y0) ⊎ ((b.y1 ≤ℤ y) ⊎ (((x +ℤ y) ≤ℤ b.s0) ⊎ ((x ≤ℤ b.x0) ⊎ ((x -ℤ y) ≤ℤ b.d0))))))

-- .. and beyond one of the three right bounds
abbrev pub CountsRight : ℕ → Bounds → ℤ → ℤ → Type 0
CountsRight n b x y =
    ((n ≡ 1) × (b.y0 ≤ℤ y) × (y <ℤ b.y1) × ((b.d1 <ℤ (x -ℤ y)) ⊎ ((b.x1 <ℤ x) ⊎ (b.s1 <ℤ (x +ℤ y)))))
    ⊎ ((n ≡ 0) × ((y <ℤ b.y0) ⊎ ((b.y1 ≤ℤ y) ⊎ (((x -ℤ y) ≤ℤ b.d1) × (x ≤ℤ b.x1) × ((x +ℤ y) ≤ℤ b.s1)))))

pub left_side : (b : Bounds) (x y : ℤ) (c1 c2 c3 : ℕ) → IsTight b
    → Counts c1 (b.x0 -ℤ b.d0) b.y1 y b.d0 (x -ℤ y) → Counts c2 (b.s0 -ℤ b.x0) (b.x0 -ℤ b.d0) y b.x0 x → Counts c3 b.y0 (b.s0 -ℤ b.x0) y b.s0 (x +ℤ y)
    → CountsLeft (c1 + c2 + c3) b x y
left_side b x y c1 c2 c3 t h1 h2 h3 =
    by_lt_z {P = CountsLeft (c1 + c2 + c3) b x y} y b.y0 (λ l. inr (omega (arith, ints), inl l))
    (λ a1. by_lt_z {P = CountsLeft (c1 + c2 + c3) b x y} y b.y1
    (λ a2. by_lt_z {P = CountsLeft (c1 + c2 + c3) b x y} b.s0 (x +ℤ y)
    (λ a3. by_lt_z {P = CountsLeft (c1 + c2 + c3) b x y} b.x0 x
    (λ a4. by_lt_z {P = CountsLeft (c1 + c2 + c3) b x y} b.d0 (x -ℤ y)
    (λ a5. inl (omega (arith, ints), a1, a2, a3, a4, a5))
    (λ l. inr (omega (arith, ints), inr (inr (inr (inr l))))))
    (λ l. inr (omega (arith, ints), inr (inr (inr (inl l))))))
    (λ l. inr (omega (arith, ints), inr (inr (inl l)))))
    (λ l. inr (omega (arith, ints), inr (inl l))))

pub right_side : (b : Bounds) (x y : ℤ) (c1 c2 c3 : ℕ) → IsTight b
    → Counts c1 b.y0 (b.x1 -ℤ b.d1) y b.d1 (x -ℤ y) → Counts c2 (b.x1 -ℤ b.d1) (b.s1 -ℤ b.x1) y b.x1 x → Counts c3 (b.s1 -ℤ b.x1) b.y1 y b.s1 (x +ℤ y)
    → CountsRight (c1 + c2 + c3) b x y
right_side b x y c1 c2 c3 t h1 h2 h3 =
    by_lt_z {P = CountsRight (c1 + c2 + c3) b x y} y b.y0 (λ l. inr (omega (arith, ints), inl l))
    (λ a1. by_lt_z {P = CountsRight (c1 + c2 + c3) b x y} y b.y1
    (λ a2. by_lt_z {P = CountsRight (c1 + c2 + c3) b x y} b.d1 (x -ℤ y)
    (λ l. inl (omega (arith, ints), a1, a2, inl l))
    (λ a3. by_lt_z {P = CountsRight (c1 + c2 + c3) b x y} b.x1 x
    (λ l. inl (omega (arith, ints), a1, a2, inr (inl l)))
    (λ a4. by_lt_z {P = CountsRight (c1 + c2 + c3) b x y} b.s1 (x +ℤ y)
    (λ l. inl (omega (arith, ints), a1, a2, inr (inr l)))
    (λ a5. inr (omega (arith, ints), inr (inr (a3, a4, a5)))))))
    (λ l. inr (omega (arith, ints), inr (inl l))))
