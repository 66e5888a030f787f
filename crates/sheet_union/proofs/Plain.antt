-- What the code's numbers are.
use Rattle.std.proofs.Common.{◌≡◌, refl, ◌^◌, arith, w64, to_z, of_z, FitsSigned, true, false}
use Rattle.std.specs.Prelude.{ℤ, pos, ◌+ℤ◌, ◌-ℤ◌, ◌*ℤ◌, int_le}
use Rattle.std.proofs.lemmas.Int.{ints, to_z-of_z}
use Rattle.plane.specs.Plane.{Bounds, IsOct}
use Rattle.plane.specs.Narrow.{IsNearZero}
use Rattle.octagon.proofs.Plain.{IsOct-IsSmall}
use Rattle.sheet_union.specs.Inner.Crossings.{is_within_twice}

-- a number as the code reads it, and twice a number
abbrev pub read : ℤ → ℤ
read y = to_z w64 (of_z w64 y)

abbrev pub twice : ℤ → ℤ
twice r = to_z w64 (of_z w64 (pos 2 *ℤ to_z w64 (of_z w64 r)))

pub read_is : (y : ℤ) → IsNearZero (2 ^ 60) y → read y ≡ y
read_is y h = omega (arith, ints)

pub twice_is : (y : ℤ) → IsNearZero (2 ^ 42) y → twice y ≡ pos 2 *ℤ y
twice_is y h = omega (arith, ints)

pub between_then : (low v high : ℤ) → IsNearZero (2 ^ 42) low → IsNearZero (2 ^ 42) high → FitsSigned w64 v
    → int_le (twice low) (read v) ≡ true → int_le (read v) (twice high) ≡ is_within_twice low v high
between_then low v high h k f l =
    let m : int_le (pos 2 *ℤ low) v ≡ true = rw (twice_is low h, to_z-of_z w64 v f) at l in
    rw (twice_is high k, to_z-of_z w64 v f, m) refl

pub between_else : (low v high : ℤ) → IsNearZero (2 ^ 42) low → FitsSigned w64 v → int_le (twice low) (read v) ≡ false → false ≡ is_within_twice low v high
between_else low v high h f l =
    let m : int_le (pos 2 *ℤ low) v ≡ false = rw (twice_is low h, to_z-of_z w64 v f) at l in
    rw m refl

-- a bound of an octagon is small
small_read : (z : ℤ) → IsNearZero (2 ^ 42) z → IsNearZero (2 ^ 42) (read z)
small_read z h = rw (read_is z (omega (arith, ints))) h

pub bound_x0 : (b : Bounds) (r : ℤ) → IsOct b → r ≡ b.x0 → IsNearZero (2 ^ 42) (read r)
bound_x0 b r o e = rw e (small_read b.x0 (IsOct-IsSmall b o).x0)

pub bound_x1 : (b : Bounds) (r : ℤ) → IsOct b → r ≡ b.x1 → IsNearZero (2 ^ 42) (read r)
bound_x1 b r o e = rw e (small_read b.x1 (IsOct-IsSmall b o).x1)

pub bound_y0 : (b : Bounds) (r : ℤ) → IsOct b → r ≡ b.y0 → IsNearZero (2 ^ 42) (read r)
bound_y0 b r o e = rw e (small_read b.y0 (IsOct-IsSmall b o).y0)

pub bound_y1 : (b : Bounds) (r : ℤ) → IsOct b → r ≡ b.y1 → IsNearZero (2 ^ 42) (read r)
bound_y1 b r o e = rw e (small_read b.y1 (IsOct-IsSmall b o).y1)

pub bound_s0 : (b : Bounds) (r : ℤ) → IsOct b → r ≡ b.s0 → IsNearZero (2 ^ 42) (read r)
bound_s0 b r o e = rw e (small_read b.s0 (IsOct-IsSmall b o).s0)

pub bound_s1 : (b : Bounds) (r : ℤ) → IsOct b → r ≡ b.s1 → IsNearZero (2 ^ 42) (read r)
bound_s1 b r o e = rw e (small_read b.s1 (IsOct-IsSmall b o).s1)

pub bound_d0 : (b : Bounds) (r : ℤ) → IsOct b → r ≡ b.d0 → IsNearZero (2 ^ 42) (read r)
bound_d0 b r o e = rw e (small_read b.d0 (IsOct-IsSmall b o).d0)

pub bound_d1 : (b : Bounds) (r : ℤ) → IsOct b → r ≡ b.d1 → IsNearZero (2 ^ 42) (read r)
bound_d1 b r o e = rw e (small_read b.d1 (IsOct-IsSmall b o).d1)

-- a place by its sums
pub double_less : (x d : ℤ) → IsNearZero (2 ^ 42) x → IsNearZero (2 ^ 42) d → read (twice x -ℤ twice d) ≡ pos 2 *ℤ x -ℤ pos 2 *ℤ d
double_less x d h k = omega (arith, ints)

pub plus_is : (s d : ℤ) → IsNearZero (2 ^ 44) s → IsNearZero (2 ^ 44) d → read (read s +ℤ read d) ≡ s +ℤ d
plus_is s d h k = omega (arith, ints)

pub less_is : (s d : ℤ) → IsNearZero (2 ^ 44) s → IsNearZero (2 ^ 44) d → read (read s -ℤ read d) ≡ s -ℤ d
less_is s d h k = omega (arith, ints)

pub smaller : (z : ℤ) → IsNearZero (2 ^ 42) z → IsNearZero (2 ^ 44) z
smaller z h = omega (arith, ints)
