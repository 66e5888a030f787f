-- Why a script isn't read.
use Rattle.std.specs.Prelude.{ℕ, List}
use Rattle.edit_language.specs.Scripts.{IsFirstFault}
use Rattle.board_edit.specs.declared.error.ScriptError.{ScriptError}
use Rattle.board_edit.specs.declared.error.ScriptError.TheVariants.{Memory, Bad}

-- want of memory, or the script's first fault
abbrev pub IsScriptRefusal : List ℕ → ScriptError → Type 0
IsScriptRefusal script Memory = Unit {0}
IsScriptRefusal script (Bad fault) = IsFirstFault script fault.line fault.kind
