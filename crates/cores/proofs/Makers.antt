-- What is made is whole.
use Rattle.std.proofs.Common.{◌≡◌, ℕ, ◌^◌, ◌≤◌, sym, subst, arith, w64, to_z, of_z}
use Rattle.std.specs.Prelude.{ℤ, pos, ◌*ℤ◌, ◌≤ℤ◌}
use Rattle.std.proofs.lemmas.Int.{ints}
use Rattle.touching.specs.Core.{area, IsWhole}
use Rattle.plane.specs.Plane.{Bounds, IsTight, IsOct, times, box_of}
use Rattle.plane.specs.Narrow.{IsNearZero, IsSmall}
use Rattle.plane.proofs.Moved.{tight_box_law}
use Rattle.plane.proofs.Times.{IsTight-times}

whole_area : (b c : Bounds) → b ≡ c → IsTight c → IsWhole (area b)
unfolding IsWhole
whole_area b c e t = subst (λ (z : Bounds). IsTight z) (sym e) t

pub whole_box : (b : Bounds) (x0 x1 y0 y1 : ℤ) → b ≡ box_of x0 x1 y0 y1 → x0 ≤ℤ x1 → y0 ≤ℤ y1 → IsWhole (area b)
whole_box b x0 x1 y0 y1 e h k = whole_area b (box_of x0 x1 y0 y1) e (tight_box_law x0 x1 y0 y1 h k)

pub whole_times : (b c : Bounds) → b ≡ times 4 c → IsTight c → IsWhole (area b)
whole_times b c e t = whole_area b (times 4 c) e (IsTight-times 4 c t)

-- the bounds of an octagon are small
pub oct_small : (b : Bounds) → IsOct b → IsSmall b
oct_small b h = record {
  x0 = record { low = omega (arith, ints); high = omega (arith, ints) };
  x1 = record { low = omega (arith, ints); high = omega (arith, ints) };
  y0 = record { low = omega (arith, ints); high = omega (arith, ints) };
  y1 = record { low = omega (arith, ints); high = omega (arith, ints) };
  s0 = record { low = omega (arith, ints); high = omega (arith, ints) };
  s1 = record { low = omega (arith, ints); high = omega (arith, ints) };
  d0 = record { low = omega (arith, ints); high = omega (arith, ints) };
  d1 = record { low = omega (arith, ints); high = omega (arith, ints) };
}

-- a number as the code reads it again
abbrev pub code_read : ℤ → ℤ
code_read z = to_z w64 (of_z w64 z)

pub read_near : (n : ℕ) (a z : ℤ) → n ≤ 2 ^ 62 → a ≡ z → IsNearZero n z → IsNearZero n (code_read a)
read_near n a z h e near = record { low = omega (arith, ints, e, near.low, near.high); high = omega (arith, ints, e, near.low, near.high) }

pub quadrupled : (r u z : ℤ) → IsNearZero (2 ^ 44) r → IsNearZero (2 ^ 42) z → u ≡ z → r ≡ pos 4 *ℤ code_read u → code_read r ≡ pos 4 *ℤ z
quadrupled r u z h k e f = omega (arith, ints, h.low, h.high, k.low, k.high, e, f)
