-- The laws of finite sets of grid points.
use Rattle.std.specs.Prelude.{◌≡◌, ◌↔◌, ℕ, ◌≤◌, List, length, ℤ}
use Rattle.std.specs.List.{All}
use Rattle.plane.specs.Plane.{PlanePoint, IsTight}
use Rattle.grid_sets.specs.Rows.{Run, OnRuns, AscendingRuns, Row, OnRows, AreRows}
use Rattle.grid_sets.specs.Bands.{Band, AreBandsOf}
use Rattle.grid_sets.specs.Cells.{cells_of, OnBrushed, IsBrushedByRows}
use Rattle.grid_sets.specs.Points.{HasPoint, AreApart, GridPoint, IsListed, AreDistinct}

-- two lists of rows with the same points are the same: a finite set has one list of rows
abbrev pub OneRowsLaw : Type 0
OneRowsLaw = (rows others : List Row) → AreRows rows → AreRows others → ((x y : ℤ) → OnRows rows x y ↔ OnRows others x y) → rows ≡ others

-- two lists of maximal runs with the same points are the same
abbrev pub OneRunsLaw : Type 0
OneRunsLaw = (low least : ℤ) (runs others : List Run) → AscendingRuns low runs → AscendingRuns least others → ((x : ℤ) → OnRuns runs x ↔ OnRuns others x) → runs ≡ others

-- rows have one list of greedy bands
abbrev pub BandsLaw : Type 0
BandsLaw = (rows : List Row) (bands others : List Band) → AreBandsOf rows bands → AreBandsOf rows others → bands ≡ others

-- the points of the cells are those of the rows
abbrev pub CellPointsLaw : Type 0
CellPointsLaw = (rows : List Row) (bands : List Band) (x y : ℤ) → AreBandsOf rows bands → OnRows rows x y ↔ HasPoint (cells_of bands) x y

-- no point is in two cells
abbrev pub CellsApartLaw : Type 0
CellsApartLaw = (rows : List Row) (bands : List Band) → AreRows rows → AreBandsOf rows bands → AreApart (cells_of bands)

-- each cell is a tight octagon
abbrev pub CellsTightLaw : Type 0
CellsTightLaw = (rows : List Row) (bands : List Band) → AreRows rows → AreBandsOf rows bands → All IsTight (cells_of bands)

-- the cells plus a brush of at least 250 units have exactly the points that the brush has at the points of the rows
abbrev pub CellsBrushLaw : Type 0
CellsBrushLaw =
    (b : ℕ) (rows : List Row) (bands : List Band) (p : PlanePoint) → 250 ≤ b → AreRows rows → AreBandsOf rows bands
    → OnBrushed b (cells_of bands) p ↔ IsBrushedByRows b rows p

-- two lists of the same points, each once, are equally long
abbrev pub CountLaw : Type 0
CountLaw =
    (ps qs : List GridPoint) → AreDistinct ps → AreDistinct qs → ((x y : ℤ) → IsListed ps x y ↔ IsListed qs x y) → length ps ≡ length qs
