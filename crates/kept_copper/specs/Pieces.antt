-- The fill that kept cells make.
use Rattle.std.specs.Prelude.{◌≡◌, ◌++◌, ℕ, List, length, map}
use Rattle.plane.specs.Plane.{Bounds}
use Rattle.grid_sets.specs.Points.{HasPoint}
use Rattle.islands.specs.Parts.{AreParts}
use Rattle.fill_rules.specs.Tasks.{Task}
use Rattle.fill_rules.specs.Made.{Made}
use Rattle.fills.specs.Fills.{brushed}
use Rattle.components.specs.Cells.{AreCells}

-- The grid points of the kept cells are made into cells anew. The pieces are these, each grown by the brush of radius r, and
-- the spokes behind them; with the parts that they make.
pub record IsFillOfCells (t : Task) (kept behind : List Bounds) (r : ℕ) (f : Made) : Type 0 where
  pub task : f.task ≡ t
  pub cells : List Bounds
  pub are_cells : AreCells (HasPoint kept) cells
  pub pieces : f.pieces ≡ map (brushed r) cells ++ behind
  pub spokes : f.spokes ≡ length behind
  pub parts : AreParts f.pieces f.parts
