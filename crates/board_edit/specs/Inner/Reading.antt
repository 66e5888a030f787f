-- What of a script was read, and what is left of it.
use Rattle.std.specs.Prelude.{◌≡◌, ℕ, suc, ◌+◌, not, List, [], ◌∷◌, ◌++◌, length, filter, Option, None, Some}
use Rattle.edit_language.specs.declared.edit.Edit.{Edit}
use Rattle.edit_language.specs.Lines.{Line, pieces, is_line_feed, is_passed_over, numbered_lines}
use Rattle.edit_language.specs.Scripts.{Script, Edits, Fault, script_from}
use Rattle.board_edit.specs.declared.error.ScriptError.{ScriptError}
use Rattle.board_edit.specs.declared.error.ScriptError.TheVariants.{Memory, Bad}

-- the edits that are left stand behind those that were read; a fault stays
abbrev pub behind : List Edit → Script → Script
behind edits (Edits more) = Edits (edits ++ more)
behind edits (Fault line kind) = Fault line kind

-- of these lines those that aren't passed over, numbered from n on
abbrev pub lines_in : ℕ → List (List ℕ) → List Line
lines_in n lines = filter (λ line. not (is_passed_over line.words)) (numbered_lines n lines)

-- what a script says of which these edits were read and these lines are left, numbered from n on
unfoldable pub script_with : List Edit → ℕ → List (List ℕ) → Script
script_with edits n lines = behind edits (script_from (length edits) (lines_in n lines))

-- the lines of what is left, where anything is
abbrev pub pieces_left : Option (List ℕ) → List (List ℕ)
pieces_left None = []
pieces_left (Some text) = pieces is_line_feed text

-- want of memory, or the fault that the script says
abbrev pub IsLineRefusal : Script → ScriptError → Type 0
IsLineRefusal script Memory = Unit {0}
IsLineRefusal script (Bad fault) = script ≡ Fault fault.line fault.kind

-- how many bytes are left, and one more where anything is
abbrev pub bytes_left : Option (List ℕ) → ℕ
bytes_left None = 0
bytes_left (Some text) = length text + 1

-- what a script says stays as a line is read, whatever stands behind that
abbrev pub IsLineRead : List Edit → ℕ → List ℕ → List Edit → Type 0
IsLineRead edits n line new = (others : List (List ℕ)) → script_with edits n (line ∷ others) ≡ script_with new (suc n) others

-- so that it says a fault where the line is faulty
abbrev pub IsLineRefused : List Edit → ℕ → List ℕ → ScriptError → Type 0
IsLineRefused edits n line e = (others : List (List ℕ)) → IsLineRefusal (script_with edits n (line ∷ others)) e
