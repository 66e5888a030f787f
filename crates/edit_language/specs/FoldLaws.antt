-- The laws of edited texts.
use Rattle.std.specs.Prelude.{◌≡◌, ℕ, List, [], ◌∷◌, None}
use Rattle.sexpr_text.specs.Items.{Item}
use Rattle.sexpr_text.specs.Trees.{IsRoot}
use Rattle.text_splices.specs.Splice.{IsSplice}
use Rattle.board_language.specs.Reading.{IsAccepted, IsOffence}
use Rattle.edit_language.specs.declared.edit.Edit.{Edit}
use Rattle.edit_language.specs.declared.edit.EditRefusal.{EditRefusal}
use Rattle.edit_language.specs.Edited.{splice_in, refusal_in, IsAcceptedEdit, IsEditRefused, IsEdited, IsRefusedEdit}

-- a text is that of one list
abbrev pub OneRootLaw : Type 0
OneRootLaw = (text : List ℕ) (root other : Item) → IsRoot text root → IsRoot text other → root ≡ other

-- the text that an accepted edit makes is the old one with the edit's splice
abbrev pub SpliceTextLaw : Type 0
SpliceTextLaw =
    (text : List ℕ) (root : Item) (edit : Edit) (new : List ℕ) → IsRoot text root → IsAcceptedEdit text edit new
    → (refusal_in text root edit ≡ None) × IsSplice text (splice_in text root edit).from (splice_in text root edit).to (splice_in text root edit).put new

-- an edit makes at most one text, or is refused for one thing, and not both
abbrev pub OneEditLaw : Type 0
OneEditLaw =
    (text : List ℕ) (edit : Edit) (new last : List ℕ) (refusal other : EditRefusal)
    → (IsAcceptedEdit text edit new → IsAcceptedEdit text edit last → new ≡ last)
    × (IsAcceptedEdit text edit new → IsEditRefused text edit refusal → ⊥)
    × (IsEditRefused text edit refusal → IsEditRefused text edit other → refusal ≡ other)

-- and so does a list of edits, at one edit of it
abbrev pub OneFoldLaw : Type 0
OneFoldLaw =
    (text : List ℕ) (list : List Edit) (new last : List ℕ) (index place : ℕ) (refusal other : EditRefusal)
    → (IsEdited text list new → IsEdited text list last → new ≡ last)
    × (IsEdited text list new → IsRefusedEdit text list index refusal → ⊥)
    × (IsRefusedEdit text list index refusal → IsRefusedEdit text list place other → (index ≡ place) × (refusal ≡ other))

-- edits are counted from 1
abbrev pub IndexLaw : Type 0
IndexLaw =
    (text so_far : List ℕ) (first : Edit) (second : Edit) (refusal : EditRefusal)
    → (IsEditRefused text first refusal → IsRefusedEdit text (first ∷ second ∷ []) 1 refusal)
    × (IsAcceptedEdit text first so_far → IsEditRefused so_far second refusal → IsRefusedEdit text (first ∷ second ∷ []) 2 refusal)
