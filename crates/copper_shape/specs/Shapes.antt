-- Shapes: a core and a radius, in halves of a nanometre, and how far they reach.
use Rattle.std.specs.Prelude.{ℕ, ◌≤◌, pos, neg_ℤ, ◌+ℤ◌, ◌-ℤ◌, ◌≤ℤ◌}
use Rattle.grid_num.specs.declared.Point.{Point}
use Rattle.touching.specs.Core.{Core, IsWhole}
use Rattle.cores.specs.Room.{IsCoreInRoom}

-- a piece of copper: all that is at most the radius away from the core
pub record Copper : Type 0 where
  pub core : Core
  pub radius : ℕ

-- what every shape of the program is: within a metre of 0, with a radius of at most a metre
pub record IsShape (c : Copper) : Type 0 where
  pub whole : IsWhole c.core
  pub within : IsCoreInRoom 2000000000 c.core
  pub radius : c.radius ≤ 2000000000

-- the box round a centre, with half its sides, lies within m of 0
pub record IsBoxWithin (m : ℕ) (center : Point) (hx hy : ℕ) : Type 0 where
  pub left : neg_ℤ (pos m) ≤ℤ (center.x -ℤ pos hx)
  pub right : (center.x +ℤ pos hx) ≤ℤ pos m
  pub top : neg_ℤ (pos m) ≤ℤ (center.y -ℤ pos hy)
  pub bottom : (center.y +ℤ pos hy) ≤ℤ pos m
