-- How far the places reach of which hulls are made.
use Rattle.std.specs.Prelude.{ℕ, ◌*◌}
use Rattle.grid_num.specs.declared.Point.{Point}
use Rattle.cores.specs.Room.{IsInRoom}

-- the place, given with n to the unit, lies within a metre (500,000,000 units) of 0
abbrev pub IsPlaceInRoom : ℕ → Point → Type 0
IsPlaceInRoom n p = IsInRoom (n * 500000000) p
