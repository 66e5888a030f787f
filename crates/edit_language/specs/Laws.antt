-- The laws of the language of edits.
use Rattle.std.specs.Prelude.{◌≡◌, ◌↔◌, ◌⊎◌, ℕ, ◌≤◌, Bool, true, false, List, [], ◌∷◌, ◌++◌, length}
use Rattle.classes.specs.Classes.{IsOneOf}
use Rattle.edit_language.specs.declared.edit.Edit.{Edit}
use Rattle.edit_language.specs.declared.edit.EditKind.{EditKind}
use Rattle.edit_language.specs.Lines.{Word, pieces, is_line_feed, is_blank, words_of}
use Rattle.edit_language.specs.Scripts.{Edits, Fault, AreEdits, IsFirstFault, script_of, IsWritten, IsFormed}

-- none of the bytes passes
abbrev pub HasNone : (ℕ → Bool) → List ℕ → Type 0
HasNone test bytes = (byte : ℕ) → IsOneOf byte bytes → test byte ≡ false

-- ---- lines and words

-- a line feed ends a line
abbrev pub LineEndLaw : Type 0
LineEndLaw = (front behind : List ℕ) → pieces is_line_feed (front ++ 10 ∷ behind) ≡ pieces is_line_feed front ++ pieces is_line_feed behind

-- and nothing else does
abbrev pub LineLaw : Type 0
LineLaw = (line : List ℕ) → HasNone is_line_feed line → pieces is_line_feed line ≡ line ∷ []

-- each blank parts words
abbrev pub WordEndLaw : Type 0
WordEndLaw = (front behind : List ℕ) (byte : ℕ) → is_blank byte ≡ true → words_of (front ++ byte ∷ behind) ≡ words_of front ++ words_of behind

-- and nothing else does
abbrev pub WordLaw : Type 0
WordLaw = (word : Word) → 1 ≤ length word → HasNone is_blank word → words_of word ≡ word ∷ []

-- an empty line has no words
abbrev pub NoWordLaw : Type 0
NoWordLaw = words_of [] ≡ []

-- ---- scripts

-- the edits of a script, as one value and by its lines
abbrev pub EditsLaw : Type 0
EditsLaw = (script : List ℕ) (edits : List Edit) → (script_of script ≡ Edits edits) ↔ AreEdits script edits

-- and its first fault
abbrev pub FaultLaw : Type 0
FaultLaw = (script : List ℕ) (line : ℕ) (kind : EditKind) → (script_of script ≡ Fault line kind) ↔ IsFirstFault script line kind

-- a script has edits or a first fault
abbrev pub SomeScriptLaw : Type 0
SomeScriptLaw = (script : List ℕ) → ((edits : List Edit) × AreEdits script edits) ⊎ ((line : ℕ) × (kind : EditKind) × IsFirstFault script line kind)

-- and not both, nor two of the one
abbrev pub OneScriptLaw : Type 0
OneScriptLaw =
    (script : List ℕ) (edits others : List Edit) (line at : ℕ) (kind other : EditKind)
    → (AreEdits script edits → IsFirstFault script line kind → ⊥)
    × (AreEdits script edits → AreEdits script others → edits ≡ others)
    × (IsFirstFault script line kind → IsFirstFault script at other → (line ≡ at) × (kind ≡ other))

-- the values of an edit that some line gives are of their form
abbrev pub WrittenLaw : Type 0
WrittenLaw = (edit : Edit) → IsWritten edit → IsFormed edit
