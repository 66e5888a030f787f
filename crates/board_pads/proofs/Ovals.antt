-- The segment of an oval pad is level or upright.
use Rattle.std.proofs.Common.{◌≡◌, ℕ, zero, suc, ◌-◌, ◌⊎◌, inl, inr, arith}
use Rattle.std.specs.Prelude.{ℤ, pos, ◌+ℤ◌, ◌-ℤ◌}
use Rattle.std.proofs.lemmas.Int.{ints}

pub is_straight : (x y fx fy tx ty : ℤ) (w h long tall : ℕ) → long ≡ w - h → tall ≡ h - w → fx ≡ x -ℤ pos long → tx ≡ x +ℤ pos long → fy ≡ y -ℤ pos tall → ty ≡ y +ℤ pos tall → (fx ≡ tx) ⊎ (fy ≡ ty)
is_straight x y fx fy tx ty w h zero tall l t a b c d = inl (omega (arith, ints, a, b))
is_straight x y fx fy tx ty w h (suc long) tall l t a b c d = let z : tall ≡ 0 = omega (arith, l, t) in inr (omega (arith, ints, c, d, z))
