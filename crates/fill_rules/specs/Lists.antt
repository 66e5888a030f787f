-- Fills as lists of octagons, one list for each rank.
use Rattle.std.specs.Prelude.{◌↔◌, ℕ, ◌<◌, List, [], get_or, length}
use Rattle.plane.specs.Plane.{PlanePoint, Bounds, In}
use Rattle.classes.specs.Classes.{IsOneOf}
use Rattle.board_language.specs.Board.{Board}
use Rattle.fill_rules.specs.Tasks.{ranked}
use Rattle.fill_rules.specs.Fill.{Fills, InFill}

-- the point is in one of the octagons
abbrev pub InOne : List Bounds → PlanePoint → Type 0
InOne octs p = (o : Bounds) × IsOneOf o octs × In o p

-- the points of the list at each rank
abbrev pub covered_by : List (List Bounds) → Fills
covered_by fills i p = InOne (get_or fills i []) p

-- each list covers the fill of its rank, over the lists before it
pub record AreFillLists (b : Board) (fills : List (List Bounds)) : Type 0 where
  pub each : (i : ℕ) → i < length (ranked b) → (p : PlanePoint) → covered_by fills i p ↔ InFill b (covered_by fills) i p
