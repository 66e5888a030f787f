-- What is written of a board, filled again, is the same bytes.
use Rattle.std.specs.Prelude.{◌≡◌, ℕ, List}
use Rattle.std.specs.List.{All}
use Rattle.sexpr_text.specs.Items.{Item}
use Rattle.sexpr_text.specs.Trees.{IsRoot}
use Rattle.board_language.specs.Clearances.{AreSoundRules}
use Rattle.board_language.specs.declared.board.Rules.{Rules}
use Rattle.board_language.specs.Reading.{board_of, IsAccepted}
use Rattle.fill_rules.specs.Made.{Made}
use Rattle.fills.specs.Fills.{AreBoardFills}
use Rattle.rings.specs.Rings.{Traced, IsRingInRange}
use Rattle.output_rules.specs.Traced.{AreTracedOf}
use Rattle.output_rules.specs.Output.{text_with_rings}
use Rattle.same_boards.specs.Alike.{AreAlike}
use Rattle.refill_facts.specs.Apart.{AreFillsApart}

-- The text out is what is written of a board with these fills and outlines. It is itself the text of an accepted board, which is
-- the same but for places, has the same fills with the same outlines, and is written as the same bytes.
pub record IsSameAgain (text : List ℕ) (root : Item) (rules : Rules) (fills : List Made) (traced : List Traced) (out : List ℕ) : Type 0 where
  pub last : Item
  pub is_root : IsRoot out last
  pub accepted : IsAccepted out last
  pub alike : AreAlike (board_of text root rules) (board_of out last rules)
  pub fills_are : AreBoardFills (board_of out last rules) fills
  pub traced_are : AreTracedOf fills traced
  pub same : text_with_rings out (board_of out last rules) traced ≡ out

-- An accepted board with its fills and their outlines, of corners within 500 mm: where no word comes directly behind an old
-- fill, what is written of it is the text of a board with the same fills, which is written as the same bytes.
abbrev pub RefilledLaw : Type 0
RefilledLaw =
    (text : List ℕ) (root : Item) (rules : Rules) (fills : List Made) (traced : List Traced) → AreSoundRules rules → IsRoot text root → IsAccepted text root → AreFillsApart text root
    → AreBoardFills (board_of text root rules) fills → AreTracedOf fills traced → All (λ (t : Traced). All IsRingInRange t.rings) traced
    → IsSameAgain text root rules fills traced (text_with_rings text (board_of text root rules) traced)
