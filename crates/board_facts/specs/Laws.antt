-- The laws of accepted boards.
use Rattle.std.specs.Prelude.{ℕ, List, length}
use Rattle.sexpr_text.specs.Items.{Item}
use Rattle.sexpr_text.specs.Trees.{IsRoot}
use Rattle.board_language.specs.declared.board.Rules.{Rules}
use Rattle.board_language.specs.Clearances.{AreSoundRules}
use Rattle.board_language.specs.Board.{Board}
use Rattle.board_text.specs.Things.{items_of_board}
use Rattle.board_language.specs.Reading.{IsAccepted, board_of}
use Rattle.board_language.specs.Facts.{IsSoundBoard}
use Rattle.board_facts.specs.Places.{IsPlacedBoard}
use Rattle.board_facts.specs.Stamps.{HaveOwnStamps}

-- the board of a text in which nothing offends has all of it, under whatever rules that are in range
abbrev pub AcceptedLaw : Type 0
AcceptedLaw =
    (bytes : List ℕ) (root : Item) (rules : Rules) → AreSoundRules rules → IsAccepted bytes root → IsSoundBoard (board_of bytes root rules)

-- its lists stand in the text that spells it
abbrev pub PlacesLaw : Type 0
PlacesLaw = (bytes : List ℕ) (root : Item) (rules : Rules) → IsRoot bytes root → IsPlacedBoard (length bytes) (board_of bytes root rules)

-- no two of its items have one stamp
abbrev pub StampsLaw : Type 0
StampsLaw = (bytes : List ℕ) (root : Item) → IsAccepted bytes root → HaveOwnStamps bytes (items_of_board bytes root)

-- all of it in one: what holds of the board of an accepted text, which these bytes spell
pub record HasFacts (bytes : List ℕ) (root : Item) (b : Board) : Type 0 where
  pub sound : IsSoundBoard b
  pub placed : IsPlacedBoard (length bytes) b
  pub stamps : HaveOwnStamps bytes (items_of_board bytes root)

abbrev pub FactsLaw : Type 0
FactsLaw =
    (bytes : List ℕ) (root : Item) (rules : Rules) → AreSoundRules rules → IsRoot bytes root → IsAccepted bytes root
    → HasFacts bytes root (board_of bytes root rules)
