-- Why the fills of a text aren't read.
use Rattle.std.specs.Prelude.{List}
use Rattle.sexpr_text.specs.Items.{Item}
use Rattle.fill_text.specs.FillLists.{IsFirstOf}
use Rattle.fill_text.specs.declared.error.FillsError.{FillsError}
use Rattle.fill_text.specs.declared.error.FillsError.TheVariants.{Memory, Bad}

-- for want of memory, or for the first of the fills that can't be read
abbrev pub IsRefusedFor : List Item → FillsError → Type 0
IsRefusedFor bad Memory = Unit {0}
IsRefusedFor bad (Bad at) = IsFirstOf bad at
