-- No copper of a fill is thinner than its zone's least thickness.
use Rattle.std.specs.Prelude.{ℕ}
use Rattle.plane.specs.Plane.{PlanePoint, Bounds, In}
use Rattle.touching.specs.Core.{IsReached}
use Rattle.hulls.specs.Hulls.{in_units}
use Rattle.classes.specs.Classes.{IsOneOf}
use Rattle.board_language.specs.Board.{Board}
use Rattle.board_language.specs.Facts.{IsSoundBoard}
use Rattle.fill_rules.specs.Tasks.{zone_at}
use Rattle.fill_rules.specs.Made.{Made}
use Rattle.fills.specs.Fills.{IsFillOf}

-- a disc that is t nanometres wide lies in the octagon: all that is at most t halves of a nanometre away from its centre
pub record HoldsDisc (t : ℕ) (o : Bounds) : Type 0 where
  pub centre : PlanePoint
  pub all : (q : PlanePoint) → IsReached t centre q → In o (in_units q)

-- the point is in an octagon that holds such a disc and lies in the piece
pub record IsInThick (t : ℕ) (piece : Bounds) (p : PlanePoint) : Type 0 where
  pub round : Bounds
  pub at : In round p
  pub disc : HoldsDisc t round
  pub inside : (q : PlanePoint) → In round q → In piece q

-- each piece of a fill is a union of octagons that hold a disc as wide as the zone's copper is thick at least
abbrev pub ThickLaw : Type 0
ThickLaw =
    (b : Board) → IsSoundBoard b → (i : ℕ) (f : Made) → IsFillOf b i f → (o : Bounds) → IsOneOf o f.pieces
    → (p : PlanePoint) → In o p → IsInThick (zone_at b i).thickness o p
