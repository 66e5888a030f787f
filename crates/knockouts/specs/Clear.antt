-- What the list of needs says of octagons: where copper of a task may be.
use Rattle.std.specs.Prelude.{◌↔◌, ℕ, List}
use Rattle.std.specs.List.{All}
use Rattle.plane.specs.Plane.{PlanePoint, Bounds, In}
use Rattle.hulls.specs.Cells.{around}
use Rattle.board_language.specs.Board.{Board}
use Rattle.board_language.specs.Facts.{IsSoundBoard}
use Rattle.fill_rules.specs.Tasks.{Task, zone_at, task_at}
use Rattle.fill_rules.specs.Fill.{IsClear, fills_below}
use Rattle.fill_rules.specs.Made.{Made}
use Rattle.centres.specs.Needs.{KeepsAll}
use Rattle.fills.specs.Above.{AreFillsAbove, AreFillsAboveTask}
use Rattle.knockouts.specs.Obstacles.{bars_of, needs_of, IsNeedInRange}

-- an octagon in the frame of the outline is clear exactly where it keeps the needs of all entries before the gaps
abbrev pub ClearByBarsLaw : Type 0
ClearByBarsLaw =
    (b : Board) (i : ℕ) (above : List Made) (o : Bounds) → IsSoundBoard b → AreFillsAbove b i above
    → ((p : PlanePoint) → In o p → In (around (zone_at b i).outline) p)
    → IsClear b (fills_below b i) i o ↔ KeepsAll (bars_of b (task_at b i) above) o

-- each entry is in range
abbrev pub NeedRangeLaw : Type 0
NeedRangeLaw = (b : Board) (t : Task) (above : List Made) → IsSoundBoard b → AreFillsAboveTask b t above → All IsNeedInRange (needs_of b t above)
