-- The law of spelt texts.
use Rattle.std.specs.Prelude.{ℕ, List}
use Rattle.sexpr_text.specs.Items.{Item}
use Rattle.sexpr_text.specs.Trees.{IsRoot}
use Rattle.edit_language.specs.declared.edit.Edit.{Edit}
use Rattle.edit_language.specs.Scripts.{IsFormed}
use Rattle.edit_language.specs.Edited.{IsPut}

-- the text that an edit makes of a list is one list again
abbrev pub SpellLaw : Type 0
SpellLaw = (text : List ℕ) (edit : Edit) (new : List ℕ) → IsFormed edit → IsPut text edit new → (root : Item) × IsRoot new root
