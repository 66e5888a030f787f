-- The cells of a task's allowed centres, and their pieces.
--
--       . . o o o . .     the o are allowed centres, each of one cell: a run
--       . o o o o . .     through a band. What the brush covers at the centres
--       . o . . . o o     of a cell is the cell's piece.
use Rattle.std.specs.Prelude.{◌≡◌, ℕ, List, map, ℤ, slice_get, Some}
use Rattle.plane.specs.Plane.{Bounds, Within}
use Rattle.grid_num.specs.declared.Point.{Point}
use Rattle.grid_sets.specs.Rows.{Row, AreRowsOf}
use Rattle.grid_sets.specs.Bands.{Band, AreBandsOf}
use Rattle.grid_sets.specs.Cells.{cells_of}
use Rattle.board_language.specs.Board.{Board}
use Rattle.fill_rules.specs.Tasks.{zone_at}
use Rattle.fill_rules.specs.Reliefs.{brush_radius}
use Rattle.fill_rules.specs.Fill.{IsAllowed, fill_of}
use Rattle.fills.specs.Fills.{brushed}

-- they are the cells of the greedy bands of the grid points that P holds of, in the order of the bands and in each band
-- from left to right
pub record AreCells (P : ℤ → ℤ → Type 0) (cells : List Bounds) : Type 0 where
  pub rows : List Row
  pub bands : List Band
  pub are_rows : AreRowsOf P rows
  pub are_bands : AreBandsOf rows bands
  pub are : cells ≡ cells_of bands

-- the brush of the task of rank i may stand at the grid point
abbrev pub IsAllowedAt : Board → ℕ → ℤ → ℤ → Type 0
IsAllowedAt b i x y = IsAllowed b (fill_of b) i (record { x = x; y = y })

-- cell k has the grid point
pub record IsInCell (cells : List Bounds) (k : ℕ) (c : Point) : Type 0 where
  pub cell : Bounds
  pub there : slice_get cells k ≡ Some cell
  pub within : Within cell c.x c.y

-- what the brush of the task covers at the points of each cell
abbrev pub pieces_of : Board → ℕ → List Bounds → List Bounds
pieces_of b i cells = map (brushed (brush_radius (zone_at b i))) cells
