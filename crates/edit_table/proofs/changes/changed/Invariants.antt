use Rattle.board_edit.specs.Edited.{IsReadOf}
use Rattle.edit_table.proofs.changes.changed.Given as goal

-- the board is that of the text so far
abbrev pub invariant-edits : goal.invariant-edits
invariant-edits l = IsReadOf l.text.items l.board
