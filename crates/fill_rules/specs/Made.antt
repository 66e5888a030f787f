-- A fill as it is handed on.
use Rattle.std.specs.Prelude.{ℕ, List, []}
use Rattle.plane.specs.Plane.{Bounds}
use Rattle.fill_rules.specs.Tasks.{Task}

-- the copper of a task: the last of the pieces are its spokes, and each piece has the place of the first piece of its part
pub record Made : Type 0 where
  pub task : Task
  pub pieces : List Bounds
  pub spokes : ℕ
  pub parts : List ℕ

-- what stands past the last task
abbrev pub no_fill : Made
no_fill = record { task = record { zone = 0; layer = 0 }; pieces = []; spokes = 0; parts = [] }
