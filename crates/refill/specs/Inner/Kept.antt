-- A session with other fields than before.
use Rattle.std.specs.Prelude.{ℕ, Bool, List}
use Rattle.board_model.specs.Whole.{Whole}
use Rattle.fill_rules.specs.Made.{Made}
use Rattle.refill.specs.Sessions.{State}

-- another text and board, with these flags
abbrev pub with_edited : State → List ℕ → Whole → List Bool → State
with_edited s text b dirty = record { text = text; board = b; filled = s.filled; fills = s.fills; dirty = dirty }

-- these fills of its board, with these flags
abbrev pub with_filled : State → List Made → List Bool → State
with_filled s fills dirty = record { text = s.text; board = s.board; filled = s.board; fills = fills; dirty = dirty }
