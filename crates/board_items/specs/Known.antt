-- What is known of the whole board, with the bytes of its text.
use Rattle.std.specs.Prelude.{ℕ, List}
use Rattle.board_text.specs.Items.{Context}
use Rattle.board_items.specs.declared.Known.{Known}

-- what is known, beside the bytes of the text, is all that holds for the board
abbrev pub context : List ℕ → Known → Context
context bytes known = record { bytes = bytes; copper = known.copper; nets = known.nets }
