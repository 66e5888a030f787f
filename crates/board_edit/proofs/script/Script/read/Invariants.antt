use Rattle.std.proofs.Common.{◌≡◌, ◌+◌, ◌≤◌, length, option_map}
use Rattle.edit_language.specs.Scripts.{script_of}
use Rattle.board_edit.specs.Inner.Reading.{script_with, pieces_left, bytes_left}
use Rattle.board_edit.proofs.script.Script.read.Given as goal

-- what was read and what is left is the whole script; each line that was read has taken at least one byte, or the last one
abbrev pub invariant-lines : goal.invariant-lines
invariant-lines l =
    (script_with l.edits.items l.number (pieces_left (option_map (λ t. t.now) l.rest)) ≡ script_of l.bytes)
    × (l.number + bytes_left (option_map (λ t. t.now) l.rest) ≤ length l.bytes + 2)

abbrev pub decreases-lines : goal.decreases-lines
decreases-lines l = bytes_left (option_map (λ t. t.now) l.rest)
