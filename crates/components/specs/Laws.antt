-- The laws of components by cells: of a sound board, of a task's rank, and of the cells of the task's allowed centres.
use Rattle.std.specs.Prelude.{◌≡◌, ◌↔◌, ℕ, ◌*◌, ◌≤◌, List, get_or, slice_get, Some, ℤ}
use Rattle.plane.specs.Plane.{Bounds}
use Rattle.grid_num.specs.declared.Point.{Point}
use Rattle.classes.specs.Classes.{Reaches, IsLeastOf}
use Rattle.grid_sets.specs.Points.{HasPoint, IsCount}
use Rattle.open_laws.specs.Open.{top_left, IsBefore}
use Rattle.islands.specs.Parts.{AreParts, IsOnePart}
use Rattle.islands.specs.Held.{IsHeld}
use Rattle.board_language.specs.declared.IslandMode.TheVariants.{Below}
use Rattle.board_language.specs.Board.{Board}
use Rattle.board_language.specs.Facts.{IsSoundBoard}
use Rattle.fill_rules.specs.Tasks.{zone_at, layer_at}
use Rattle.fill_rules.specs.Fill.{IsAllowed, IsLinked, IsAnchored, IsIslandPoint, IsKept, fill_of}
use Rattle.fill_rules.specs.Anchors.{anchors_of}
use Rattle.components.specs.Cells.{AreCells, IsAllowedAt, IsInCell, pieces_of}
use Rattle.components.specs.Kept.{AreLive, with_label, IsSparedPart, IsKeptCell}

-- it holds of each sound board, each rank, and the cells of the allowed centres there
abbrev pub OfCells : (Board → ℕ → List Bounds → Type 0) → Type 0
OfCells Law = (b : Board) → IsSoundBoard b → (i : ℕ) (cells : List Bounds) → AreCells (IsAllowedAt b i) cells → Law b i cells

-- the brush may stand exactly at the points of the cells
abbrev pub CentresLaw : Type 0
CentresLaw = OfCells (λ b i cells. (c : Point) → IsAllowed b (fill_of b) i c ↔ ((k : ℕ) × IsInCell cells k c))

-- centres are in one component exactly where the pieces of their cells are in one part
abbrev pub ComponentsLaw : Type 0
ComponentsLaw =
    OfCells (λ b i cells. (c d : Point) (j k : ℕ) → IsInCell cells j c → IsInCell cells k d
    → Reaches (IsLinked b (fill_of b) i) c d ↔ IsOnePart (pieces_of b i cells) j k)

-- the component of the centre begins at the top left point of the cell that has the label as its number; the point is in
-- this cell
pub record IsBeginning (b : Board) (i : ℕ) (cells : List Bounds) (label : ℕ) (c : Point) : Type 0 where
  pub first : Bounds
  pub there : slice_get cells label ≡ Some first
  pub within : IsInCell cells label (top_left first)
  pub least : IsLeastOf (IsLinked b (fill_of b) i) IsBefore c (top_left first)

-- so it is with the label of the cell in which the centre lies
abbrev pub FirstLaw : Type 0
FirstLaw =
    OfCells (λ b i cells. (labels : List ℕ) → AreParts (pieces_of b i cells) labels
    → (k : ℕ) (c : Point) → IsInCell cells k c → IsBeginning b i cells (get_or labels k 0) c)

-- the component of a centre is anchored exactly where the part of its cell's piece is held
abbrev pub AnchoredLaw : Type 0
AnchoredLaw =
    OfCells (λ b i cells. (live : List Bounds) → AreLive b i live → (k : ℕ) (c : Point) → IsInCell cells k c
    → IsAnchored b (fill_of b) i c ↔ IsHeld (pieces_of b i cells) (anchors_of b (zone_at b i) (layer_at b i)) live k)

-- the brush takes a grid point at the component's centres exactly where one of the pieces with the component's label has it
abbrev pub PartPointsLaw : Type 0
PartPointsLaw =
    OfCells (λ b i cells. (labels : List ℕ) → AreParts (pieces_of b i cells) labels
    → (k : ℕ) (c : Point) → IsInCell cells k c → (x y : ℤ)
    → IsIslandPoint b (fill_of b) i c x y ↔ HasPoint (with_label labels (get_or labels k 0) (pieces_of b i cells)) x y)

-- and one count of these grid points tells whether a mode that goes by the area spares the part
abbrev pub SparedCountLaw : Type 0
SparedCountLaw =
    (os : List Bounds) (points area : ℕ) → IsCount (HasPoint os) points
    → IsSparedPart os (Below area) ↔ ((1000000 * area) ≤ (4 * points))

-- a centre is kept exactly where its cell is
abbrev pub CentreKeptLaw : Type 0
CentreKeptLaw =
    OfCells (λ b i cells. (labels : List ℕ) → AreParts (pieces_of b i cells) labels
    → (live : List Bounds) → AreLive b i live → (k : ℕ) (c : Point) → IsInCell cells k c
    → IsKept b (fill_of b) i c ↔ IsKeptCell b i cells labels live k)
