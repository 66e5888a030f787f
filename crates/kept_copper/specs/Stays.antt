-- Which cells stay.
use Rattle.std.specs.Prelude.{◌≡◌, ◌↔◌, ℕ, ◌<◌, Bool, true, false, List, length, get_or, slice_get, Some}
use Rattle.plane.specs.Plane.{Bounds}
use Rattle.copper_shape.specs.Shapes.{Copper}
use Rattle.copper_shape.specs.declared.edge.Edge.{Edge}
use Rattle.open_laws.specs.Open.{top_left}
use Rattle.islands.specs.Parts.{AreParts}
use Rattle.islands.specs.Inside.{IsWithinEdges}
use Rattle.board_language.specs.declared.IslandMode.{IslandMode}
use Rattle.components.specs.Kept.{IsSparedPart, with_label, IsStaying}

-- the flags tell of each cell whether it stays, by the parts of the pieces
pub record AreStaying (edges : List Edge) (anchors : List Copper) (live : List Bounds) (mode : IslandMode) (cells pieces : List Bounds)
    (flags : List Bool) : Type 0 where
  pub labels : List ℕ
  pub parts : AreParts pieces labels
  pub count : length flags ≡ length cells
  pub each : (k : ℕ) → k < length cells → (get_or flags k false ≡ true) ↔ IsStaying edges anchors live mode cells pieces labels k

-- ---- at the first cell of a part

-- the place is that of the first of its part
abbrev pub IsFirstOfPart : List ℕ → ℕ → Type 0
IsFirstOfPart labels m = get_or labels m 0 ≡ m

-- the cell is the first of its part, and begins inside the board
pub record IsBegun (edges : List Edge) (cells : List Bounds) (labels : List ℕ) (m : ℕ) : Type 0 where
  pub own : IsFirstOfPart labels m
  pub cell : Bounds
  pub there : slice_get cells m ≡ Some cell
  pub inside : IsWithinEdges edges (top_left cell)

-- the piece is the first of its part, and the mode spares the part
pub record IsSparedAt (mode : IslandMode) (pieces : List Bounds) (labels : List ℕ) (m : ℕ) : Type 0 where
  pub own : IsFirstOfPart labels m
  pub spared : IsSparedPart (with_label labels m pieces) mode
