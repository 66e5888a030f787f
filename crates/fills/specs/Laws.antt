-- The laws of fills as lists of pieces.
use Rattle.std.specs.Prelude.{◌≡◌, ◌↔◌, ℕ, ◌<◌, ◌≤◌, ◌-◌, List, [], length, get_or, drop, map}
use Rattle.plane.specs.Plane.{PlanePoint, Bounds}
use Rattle.classes.specs.Classes.{IsOneOf}
use Rattle.islands.specs.Parts.{IsOnePart}
use Rattle.board_language.specs.Board.{Board}
use Rattle.board_language.specs.Facts.{IsSoundBoard}
use Rattle.fill_rules.specs.Tasks.{ranked}
use Rattle.fill_rules.specs.Fill.{fill_of}
use Rattle.fill_rules.specs.Dirty.{IsLike, IsSameMade}
use Rattle.fill_rules.specs.Lists.{InOne, AreFillLists}
use Rattle.fill_rules.specs.Made.{Made, no_fill}
use Rattle.fills.specs.Fills.{IsCounted, IsFillOf}

-- a task has at most one fill: one list of pieces in one order, with one list of parts
abbrev pub OneFillLaw : Type 0
OneFillLaw = (b : Board) (i : ℕ) (f g : Made) → IsFillOf b i f → IsFillOf b i g → f ≡ g

-- the two fills have the same pieces, spokes and parts; the place of the zone on its board may be another
pub record IsSamePieces (f g : Made) : Type 0 where
  pub pieces : f.pieces ≡ g.pieces
  pub spokes : f.spokes ≡ g.spokes
  pub parts : f.parts ≡ g.parts

-- tasks of two boards with the same settings, kept centres and live spokes have the same pieces
abbrev pub SameFillLaw : Type 0
SameFillLaw =
    (b d : Board) (i k : ℕ) (f g : Made) → IsLike b d i k → IsSameMade b d (fill_of b) (fill_of d) i k
    → IsFillOf b i f → IsFillOf d k g → IsSamePieces f g

-- a point is on one of the pieces exactly where it is in the fill
abbrev pub FillPointsLaw : Type 0
FillPointsLaw = (b : Board) → IsSoundBoard b → (i : ℕ) (f : Made) → IsFillOf b i f → (p : PlanePoint) → InOne f.pieces p ↔ fill_of b i p

-- the last pieces are the spokes that count
abbrev pub FillSpokesLaw : Type 0
FillSpokesLaw =
    (b : Board) (i : ℕ) (f : Made) → IsFillOf b i f → (o : Bounds)
    → IsOneOf o (drop (length f.pieces - f.spokes) f.pieces) ↔ IsCounted b i o

-- two pieces have one number exactly where they are in one part, and no piece has a number past its own place
pub record FillPartsLaw : Type 0 where
  pub one : (b : Board) (i : ℕ) (f : Made) → IsFillOf b i f → (j k : ℕ) → j < length f.pieces → k < length f.pieces
      → (get_or f.parts j 0 ≡ get_or f.parts k 0) ↔ IsOnePart f.pieces j k
  pub first : (b : Board) (i : ℕ) (f : Made) → IsFillOf b i f → (k : ℕ) → k < length f.pieces → get_or f.parts k 0 ≤ k
  pub each : (b : Board) (i : ℕ) (f : Made) → IsFillOf b i f → length f.parts ≡ length f.pieces

-- the fills of all tasks, in rank order, are lists that meet the rules one after another
abbrev pub AllFillsLaw : Type 0
AllFillsLaw =
    (b : Board) → IsSoundBoard b → (fills : List Made) → ((i : ℕ) → i < length (ranked b) → IsFillOf b i (get_or fills i no_fill))
    → AreFillLists b (map (λ (f : Made). f.pieces) fills)
