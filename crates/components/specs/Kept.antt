-- Which cells are kept, told by the labels of their pieces.
use Rattle.std.specs.Prelude.{◌≡◌, ◌⊎◌, ◌↔◌, ℕ, ◌*◌, ◌≤◌, ◌==◌, Bool, cond, List, [], ◌∷◌, map, get_or, slice_get, Some}
use Rattle.plane.specs.Plane.{Bounds, IsMeeting}
use Rattle.classes.specs.Classes.{IsOneOf}
use Rattle.copper_shape.specs.Shapes.{Copper}
use Rattle.copper_shape.specs.declared.edge.Edge.{Edge}
use Rattle.grid_sets.specs.Points.{HasPoint, IsCount}
use Rattle.open_laws.specs.Open.{top_left}
use Rattle.islands.specs.Held.{IsHeld}
use Rattle.islands.specs.Inside.{IsWithinEdges}
use Rattle.board_language.specs.declared.IslandMode.{IslandMode}
use Rattle.board_language.specs.declared.IslandMode.TheVariants.{Remove, Keep, Below}
use Rattle.board_language.specs.Board.{Board}
use Rattle.fill_rules.specs.Tasks.{zone_at, layer_at}
use Rattle.fill_rules.specs.Fill.{IsLive, fill_of}
use Rattle.fill_rules.specs.Anchors.{anchors_of}
use Rattle.components.specs.Cells.{pieces_of}

-- the list has all live spokes of the task of rank i, and nothing else
abbrev pub AreLive : Board → ℕ → List Bounds → Type 0
AreLive b i live = (o : Bounds) → IsOneOf o live ↔ IsLive b (fill_of b) i o

-- the octagons at the places whose flag is set
abbrev pub flagged : List Bool → List Bounds → List Bounds
flagged [] os = []
flagged (f ∷ fs) [] = []
flagged (f ∷ fs) (o ∷ os) = cond f (o ∷ flagged fs os) (flagged fs os)

-- the octagons at the places that have the label
abbrev pub with_label : List ℕ → ℕ → List Bounds → List Bounds
with_label labels label os = flagged (map (λ m. m == label) labels) os

-- the mode lets a part of these octagons stay, though nothing holds it: where it says so by the area, each grid point of
-- the octagons counts once, as 4 square nanometres, and the area is in millionths of a square millimetre
abbrev pub IsSparedPart : List Bounds → IslandMode → Type 0
IsSparedPart os Remove = ⊥
IsSparedPart os Keep = Unit {0}
IsSparedPart os (Below area) = (points : ℕ) × IsCount (HasPoint os) points × ((1000000 * area) ≤ (4 * points))

-- Cell k stays: the first cell whose piece has the same label begins inside the board, by its edges; and the part of the
-- pieces with this label is held by a live spoke or an anchor, or spared by the mode.
pub record IsStaying (edges : List Edge) (anchors : List Copper) (live : List Bounds) (mode : IslandMode) (cells pieces : List Bounds)
    (labels : List ℕ) (k : ℕ) : Type 0 where
  pub first : Bounds
  pub there : slice_get cells (get_or labels k 0) ≡ Some first
  pub inside : IsWithinEdges edges (top_left first)
  pub stays : IsHeld pieces anchors live k ⊎ IsSparedPart (with_label labels (get_or labels k 0) pieces) mode

-- cell k of the task of rank i is kept: it stays by the board's edges, the task's anchors and the zone's mode
abbrev pub IsKeptCell : Board → ℕ → List Bounds → List ℕ → List Bounds → ℕ → Type 0
IsKeptCell b i cells labels live k =
    IsStaying b.edges (anchors_of b (zone_at b i) (layer_at b i)) live (zone_at b i).islands cells (pieces_of b i cells) labels k

-- one of the octagons meets it
abbrev pub IsMet : List Bounds → Bounds → Type 0
IsMet os o = (l : Bounds) × IsOneOf l os × IsMeeting l o
