-- The cells of a set, with the numbers of their bands and runs.
use Rattle.std.specs.Prelude.{◌≡◌, ◌↔◌, ℕ, suc, ◌^◌, List, [], ◌∷◌, ◌++◌, ℤ}
use Rattle.std.specs.List.{All}
use Rattle.plane.specs.Plane.{Bounds, IsTight}
use Rattle.plane.specs.Narrow.{IsNearZero}
use Rattle.grid_sets.specs.Rows.{Row, AreRowsOf}
use Rattle.grid_sets.specs.Bands.{Band, AreBandsOf}
use Rattle.grid_sets.specs.Cells.{cell_of, cells_of}
use Rattle.grid_sets.specs.Points.{HasPoint, AreApart}
use Rattle.grid_sets.specs.declared.Slant.{Slant}
use Rattle.scan_runs.specs.declared.cell.Cell.{Cell}

-- the cells of a band's runs; the first one has the number run
abbrev pub run_cells : Band → ℕ → ℕ → List Slant → List Cell
run_cells b band run [] = []
run_cells b band run (s ∷ ss) = record { oct = cell_of b.top b.more s; band = band; run = run } ∷ run_cells b band (suc run) ss

-- band by band, and in each band run by run; the first band has the number band
abbrev pub numbered_cells : ℕ → List Band → List Cell
numbered_cells band [] = []
numbered_cells band (b ∷ bs) = run_cells b band 0 b.runs ++ numbered_cells (suc band) bs

-- the octagons of cells
abbrev pub octs_of : List Cell → List Bounds
octs_of [] = []
octs_of (c ∷ cs) = c.oct ∷ octs_of cs

-- none of the octagons has a grid point
abbrev pub HasNoPoint : List Bounds → Type 0
HasNoPoint os = (x y : ℤ) → ¬ (HasPoint os x y)

-- They are the cells of the set of points that P holds of: of the greedy bands of its rows each run, in the order of the
-- bands and in each band from left to right, with both numbers from 0.
pub record AreCellsOf (P : ℤ → ℤ → Type 0) (cells : List Cell) : Type 0 where
  pub rows : List Row
  pub bands : List Band
  pub are_rows : AreRowsOf P rows
  pub are_bands : AreBandsOf rows bands
  pub numbered : cells ≡ numbered_cells 0 bands
  pub octs : octs_of cells ≡ cells_of bands

-- all points of the octagons are within 2 ^ 40
pub record AreAllInReach (os : List Bounds) : Type 0 where
  pub x : (x y : ℤ) → HasPoint os x y → IsNearZero (2 ^ 40) x
  pub y : (x y : ℤ) → HasPoint os x y → IsNearZero (2 ^ 40) y

-- two lists of octagons with the same points have the same cells
abbrev pub CellsOnceLaw : Type 0
CellsOnceLaw =
    (os others : List Bounds) (cells more : List Cell) → ((x y : ℤ) → HasPoint os x y ↔ HasPoint others x y)
    → AreCellsOf (HasPoint os) cells → AreCellsOf (HasPoint others) more → cells ≡ more

-- where there is no point, there is no cell
abbrev pub NoCellsLaw : Type 0
NoCellsLaw = (os : List Bounds) (cells : List Cell) → HasNoPoint os → AreCellsOf (HasPoint os) cells → cells ≡ []

-- the points of the cells are those of the set, each in exactly one cell, and each cell is a tight octagon
pub record AreTiles (os cells : List Bounds) : Type 0 where
  pub same : (x y : ℤ) → HasPoint cells x y ↔ HasPoint os x y
  pub apart : AreApart cells
  pub tight : All IsTight cells

-- so it is with the cells of every set
abbrev pub TilesLaw : Type 0
TilesLaw = (os : List Bounds) (cells : List Cell) → AreCellsOf (HasPoint os) cells → AreTiles os (octs_of cells)
