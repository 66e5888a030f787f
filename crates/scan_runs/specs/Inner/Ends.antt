-- Ends that the code can move.
use Rattle.std.specs.Prelude.{ℕ, ◌^◌, ℤ}
use Rattle.plane.specs.Narrow.{IsNearZero}
use Rattle.scan_runs.specs.Inner.Lines.{IsLeftEnd, IsRightEnd}
use Rattle.grid_sets.specs.declared.End.{End}

-- the code can count with the end
abbrev pub IsSmallEnd : End → Type 0
IsSmallEnd e = IsNearZero (2 ^ 43) e.place

-- the left end on these rows, by the octagon's bounds
pub record IsLeftFor (x0 s0 d0 top : ℤ) (n : ℕ) (e : End) : Type 0 where
  pub small : IsSmallEnd e
  pub is : IsLeftEnd x0 s0 d0 top n e

-- the right end
pub record IsRightFor (x1 s1 d1 top : ℤ) (n : ℕ) (e : End) : Type 0 where
  pub small : IsSmallEnd e
  pub is : IsRightEnd x1 s1 d1 top n e
