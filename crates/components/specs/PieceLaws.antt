-- The laws of the pieces that are made of kept cells.
use Rattle.std.specs.Prelude.{◌≡◌, ◌↔◌, ℕ, ◌<◌, true, false, Bool, List, ◌++◌, length, get_or, ℤ}
use Rattle.plane.specs.Plane.{Bounds, IsMeeting}
use Rattle.grid_num.specs.declared.Point.{Point}
use Rattle.grid_sets.specs.Points.{HasPoint}
use Rattle.islands.specs.Parts.{AreParts}
use Rattle.board_language.specs.Board.{Board}
use Rattle.fill_rules.specs.Tasks.{task_at, zone_at, layer_at}
use Rattle.fill_rules.specs.Reliefs.{spokes_of}
use Rattle.fill_rules.specs.Fill.{brush_at, IsAllowed, IsLive, IsKept, fill_of}
use Rattle.fills.specs.Fills.{IsKeptAt, AreThose, ArePieces, IsFillOf}
use Rattle.components.specs.Cells.{AreCells, pieces_of}
use Rattle.components.specs.Kept.{AreLive, flagged, IsKeptCell, IsMet}
use Rattle.components.specs.Laws.{OfCells}

-- an octagon meets the brush at some allowed centre exactly where a cell's piece meets it
abbrev pub MeetsLaw : Type 0
MeetsLaw =
    OfCells (λ b i cells. (o : Bounds)
    → ((c : Point) × IsAllowed b (fill_of b) i c × IsMeeting o (brush_at b i c)) ↔ IsMet (pieces_of b i cells) o)

-- the flags tell which of the cells are kept, by some labels of their pieces and the live spokes
pub record AreKept (b : Board) (i : ℕ) (cells : List Bounds) (flags : List Bool) : Type 0 where
  pub labels : List ℕ
  pub parts : AreParts (pieces_of b i cells) labels
  pub live : List Bounds
  pub are_live : AreLive b i live
  pub kept : (k : ℕ) → k < length cells → (get_or flags k false ≡ true) ↔ IsKeptCell b i cells labels live k

-- it holds of the cells and of flags that tell which of them are kept
abbrev pub OfKept : (Board → ℕ → List Bounds → List Bool → Type 0) → Type 0
OfKept Law = OfCells (λ b i cells. (flags : List Bool) → AreKept b i cells flags → Law b i cells flags)

-- the points of the kept cells are the kept centres
abbrev pub KeptCellsLaw : Type 0
KeptCellsLaw = OfKept (λ b i cells flags. (x y : ℤ) → HasPoint (flagged flags cells) x y ↔ IsKeptAt b i x y)

-- an octagon meets the brush at some kept centre exactly where a kept cell's piece meets it
abbrev pub KeptMeetsLaw : Type 0
KeptMeetsLaw =
    OfKept (λ b i cells flags. (o : Bounds)
    → ((c : Point) × IsKept b (fill_of b) i c × IsMeeting o (brush_at b i c)) ↔ IsMet (pieces_of b i (flagged flags cells)) o)

-- they are the spokes of the task, in their order, that are live and that a kept cell's piece meets
abbrev pub AreCounted : Board → ℕ → List Bounds → List Bounds → Type 0
AreCounted b i kept counted =
    AreThose (λ o. IsLive b (fill_of b) i o × IsMet (pieces_of b i kept) o) (spokes_of b (zone_at b i) (layer_at b i)) counted

-- they may be chosen in two steps: the live ones of all spokes, which are all live spokes that there are, and those that
-- are met of the live ones
pub record CountedLaw : Type 0 where
  pub live : (b : Board) (i : ℕ) (live : List Bounds)
      → AreThose (IsLive b (fill_of b) i) (spokes_of b (zone_at b i) (layer_at b i)) live → AreLive b i live
  pub counted : (b : Board) (i : ℕ) (kept live counted : List Bounds)
      → AreThose (IsLive b (fill_of b) i) (spokes_of b (zone_at b i) (layer_at b i)) live
      → AreThose (IsMet (pieces_of b i kept)) live counted → AreCounted b i kept counted

-- the cells of the kept cells' points, each plus the brush, and the spokes that count are the pieces of the task
abbrev pub PiecesLaw : Type 0
PiecesLaw =
    OfKept (λ b i cells flags. (final counted : List Bounds) → AreCells (HasPoint (flagged flags cells)) final
    → AreCounted b i (flagged flags cells) counted → ArePieces b i (pieces_of b i final ++ counted) (length counted))

-- and with the parts that they make they are its fill
abbrev pub CellsFillLaw : Type 0
CellsFillLaw =
    OfKept (λ b i cells flags. (final counted : List Bounds) (parts : List ℕ) → AreCells (HasPoint (flagged flags cells)) final
    → AreCounted b i (flagged flags cells) counted → AreParts (pieces_of b i final ++ counted) parts
    → IsFillOf b i (record { task = task_at b i; pieces = pieces_of b i final ++ counted; spokes = length counted; parts = parts }))
