-- The fill of a task as one list of pieces: octagons whose union it is, in a fixed order.
use Rattle.std.specs.Prelude.{◌≡◌, ◌⊎◌, ℕ, ◌<◌, List, [], ◌∷◌, ◌++◌, map, length, get_or, ℤ}
use Rattle.plane.specs.Plane.{Bounds, IsMeeting, ball_of, sum_of}
use Rattle.grid_num.specs.declared.Point.{Point}
use Rattle.islands.specs.Parts.{AreParts}
use Rattle.board_language.specs.Board.{Board}
use Rattle.fill_rules.specs.Tasks.{ranked, task_at, zone_at, layer_at}
use Rattle.fill_rules.specs.Reliefs.{brush_radius, spokes_of}
use Rattle.fill_rules.specs.Fill.{brush_at, IsLive, IsKept, fill_of}
use Rattle.fill_rules.specs.Made.{Made, no_fill}
use Rattle.grid_sets.specs.Rows.{Row, AreRowsOf}
use Rattle.grid_sets.specs.Bands.{Band, AreBandsOf}
use Rattle.grid_sets.specs.Cells.{cells_of}
use Rattle.fills.specs.declared.Task.{Task}

-- a task, as the rules of the fill see it
abbrev pub task_of : Task → Rattle.fill_rules.specs.Tasks.Task
task_of t = record { zone = t.zone; layer = t.layer }

-- the brush of the task stands at the grid point
abbrev pub IsKeptAt : Board → ℕ → ℤ → ℤ → Type 0
IsKeptAt b i x y = IsKept b (fill_of b) i (record { x = x; y = y })

-- the spoke is live, and meets the brush at a kept centre
pub record IsCounted (b : Board) (i : ℕ) (o : Bounds) : Type 0 where
  pub live : IsLive b (fill_of b) i o
  pub meets : (c : Point) × IsKept b (fill_of b) i c × IsMeeting o (brush_at b i c)

-- the second list has those of the first that P holds of, in their order
abbrev pub AreThose : (Bounds → Type 0) → List Bounds → List Bounds → Type 0
AreThose P [] chosen = chosen ≡ []
AreThose P (o ∷ os) chosen =
    ((P o → ⊥) × AreThose P os chosen)
    ⊎ (P o × ((rest : List Bounds) × (chosen ≡ o ∷ rest) × AreThose P os rest))

-- what a brush of the radius covers at the grid points of a cell
abbrev pub brushed : ℕ → Bounds → Bounds
brushed radius cell = sum_of cell (ball_of radius)

-- They are the pieces of the task of rank i. The rows of the kept centres are grouped into bands from the top, and each run
-- through a band is a cell. The pieces are the cells, band by band and in each band from left to right, each plus the
-- brush; and then the spokes that count, pad by pad and for each pad east, south, west, north.
--
--       . . . o o o . .  \  a band: its ends move alike      each o is a kept centre; a cell
--       . . o o o o . .  /  from row to row                   plus the brush is what the brush
--       . . o o . o o .  -  two runs, so a new band           covers at the cell's points
pub record ArePieces (b : Board) (i : ℕ) (pieces : List Bounds) (spokes : ℕ) : Type 0 where
  pub rows : List Row
  pub bands : List Band
  pub counted : List Bounds
  pub are_rows : AreRowsOf (IsKeptAt b i) rows
  pub are_bands : AreBandsOf rows bands
  pub are_counted : AreThose (IsCounted b i) (spokes_of b (zone_at b i) (layer_at b i)) counted
  pub in_order : pieces ≡ map (brushed (brush_radius (zone_at b i))) (cells_of bands) ++ counted
  pub last : spokes ≡ length counted

-- it is the fill of the task of rank i: the task's pieces, and the parts that they make
pub record IsFillOf (b : Board) (i : ℕ) (f : Made) : Type 0 where
  pub task : f.task ≡ task_at b i
  pub pieces : ArePieces b i f.pieces f.spokes
  pub parts : AreParts f.pieces f.parts

-- the fills of all tasks of a board, in rank order
pub record AreBoardFills (b : Board) (all : List Made) : Type 0 where
  pub count : length all ≡ length (ranked b)
  pub each : (i : ℕ) → i < length all → IsFillOf b i (get_or all i no_fill)
