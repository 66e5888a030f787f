-- The pieces of a text that edits replace lie in the text.
use Rattle.std.specs.Prelude.{ℕ, ◌<◌, ◌≤◌, List, length, IfSome}
use Rattle.sexpr_text.specs.Items.{Item}
use Rattle.sexpr_text.specs.Trees.{IsRoot}
use Rattle.board_language.specs.declared.board.Zone.{Zone}
use Rattle.edit_language.specs.declared.edit.Edit.{Edit}
use Rattle.edit_language.specs.Splices.{Splice, priority_splice, clearance_splice}
use Rattle.edit_language.specs.Edited.{splice_in}
use Rattle.board_facts.specs.Places.{IsPlacedZone}

-- the bytes that are taken out are some of a text with so many bytes; where none are, they are put at a place in it
pub record IsInText (size : ℕ) (s : Splice) : Type 0 where
  pub order : s.from ≤ s.to
  pub within : s.to ≤ size

-- what an edit does to a zone that stands in a text
pub record IsEditable (size : ℕ) (z : Zone) (value : ℕ) : Type 0 where
  pub priority : IsInText size (priority_splice z.spans value)
  pub clearance : IsInText size (clearance_splice z.spans value)
  pub connect : IfSome z.spans.connect (λ list. 0 < list.to)

abbrev pub ZoneLaw : Type 0
ZoneLaw = (size : ℕ) (z : Zone) (value : ℕ) → IsPlacedZone size z → IsEditable size z value

abbrev pub EditLaw : Type 0
EditLaw = (text : List ℕ) (root : Item) (edit : Edit) → IsRoot text root → IsInText (length text) (splice_in text root edit)
