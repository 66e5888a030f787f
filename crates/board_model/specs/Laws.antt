-- What holds of the stamps of a board.
use Rattle.std.specs.Prelude.{◌≡◌, ℕ, List}
use Rattle.sexpr_text.specs.Items.{Item}
use Rattle.board_items.specs.Stamps.{stamped}
use Rattle.board_language.specs.Stamps.{stamp_of}
use Rattle.board_model.specs.Whole.{stamps_of_board}

-- among the stamps of a board each belongs to the thing that the definition says
abbrev pub StampLaw : Type 0
StampLaw = (text : List ℕ) (root : Item) (stamp : List ℕ) → stamped (stamps_of_board text root) stamp ≡ stamp_of text root stamp
