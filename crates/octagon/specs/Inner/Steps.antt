-- One bound of eight, narrowed by the others.
use Rattle.std.specs.Prelude.{ℤ, ◌+ℤ◌, ◌-ℤ◌}
use Rattle.std.specs.Prelude.{◌↔◌}
use Rattle.plane.specs.Plane.{Bounds, Within, IsOct}
use Rattle.plane.specs.Narrow.{IsGreatestOfFour, IsLeastOfFour, IsHalfUp, IsHalfDown}

-- r is the least number that own, sum - far, difference + near and half of sum + difference allow
abbrev pub IsLower : ℤ → ℤ → ℤ → ℤ → ℤ → ℤ → Type 0
IsLower own sum far difference near r =
    (h : ℤ) × IsHalfUp (sum +ℤ difference) h × IsGreatestOfFour own (sum -ℤ far) (difference +ℤ near) h r

abbrev pub IsUpper : ℤ → ℤ → ℤ → ℤ → ℤ → ℤ → Type 0
IsUpper own sum far difference near r =
    (h : ℤ) × IsHalfDown (sum +ℤ difference) h × IsLeastOfFour own (sum -ℤ far) (difference +ℤ near) h r

-- o is an octagon with exactly the grid points that meet the bounds
pub record IsTightened (b o : Bounds) : Type 0 where
  pub oct : IsOct o
  pub same : (x y : ℤ) → Within o x y ↔ Within b x y
