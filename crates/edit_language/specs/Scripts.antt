-- The edits of a script, or its first fault.
use Rattle.std.specs.Prelude.{◌≡◌, ℕ, suc, ◌^◌, ◌<◌, ◌≤◌, Bool, true, if◌then◌else◌, List, [], ◌∷◌, ◌++◌, map, length, codes, get_or, Option, None, Some}
use Rattle.std.specs.Str.{bytes_eq}
use Rattle.grid_num.specs.declared.Point.{Point}
use Rattle.grid_num.specs.Spelling.{number}
use Rattle.grid_num.specs.Length.{IsInRange}
use Rattle.board_text.specs.Numbers.{length_of}
use Rattle.board_text.specs.Items.{size_of}
use Rattle.edit_language.specs.declared.edit.Edit.{Edit}
use Rattle.edit_language.specs.declared.edit.Edit.TheVariants.{Track, Via, Drop, Priority, Clearance}
use Rattle.edit_language.specs.declared.edit.EditKind.{EditKind}
use Rattle.edit_language.specs.Lines.{Word, Line, lines_of}
use Rattle.edit_language.specs.Forms.{is_script_name, words_fault, fault_of}

-- ---- the edit of a line without a fault

-- the word at a place behind the first one
abbrev pub word_at : ℕ → List Word → Word
word_at place words = get_or words (suc place) []

-- two lengths, x first
abbrev pub point_in_words : ℕ → List Word → Point
point_in_words place words = record { x = length_of (word_at place words); y = length_of (word_at (suc place) words) }

-- a length that isn't negative
abbrev pub size_at : ℕ → List Word → ℕ
size_at place words = size_of (length_of (word_at place words))

-- a whole number
abbrev pub whole_at : ℕ → List Word → ℕ
whole_at place words = number (word_at place words)

-- track X1 Y1 X2 Y2 W LAYER NET STAMP
abbrev pub track_edit : List Word → Edit
track_edit words = Track (point_in_words 0 words) (point_in_words 2 words) (size_at 4 words) (word_at 5 words) (whole_at 6 words) (word_at 7 words)

-- via X Y SIZE DRILL LAYER1 LAYER2 NET STAMP
abbrev pub via_edit : List Word → Edit
via_edit words =
    Via (point_in_words 0 words) (size_at 2 words) (size_at 3 words) (word_at 4 words) (word_at 5 words) (whole_at 6 words) (word_at 7 words)

-- whether the line begins with this word
abbrev pub says_first : List ℕ → List Word → Bool
says_first text words = bytes_eq (get_or words 0 []) text

-- the edit that a line without a fault says, by its first word
unfoldable pub edit_of : Line → Edit
edit_of line =
    if says_first (codes "track") line.words then track_edit line.words
    else (if says_first (codes "via") line.words then via_edit line.words
    else (if says_first (codes "drop") line.words then Drop (word_at 0 line.words)
    else (if says_first (codes "priority") line.words then Priority (word_at 0 line.words) (whole_at 1 line.words)
    else Clearance (word_at 0 line.words) (size_at 1 line.words))))

-- an edit that some line gives
pub record IsWritten (edit : Edit) : Type 0 where
  pub line : Line
  pub sound : words_fault line.words ≡ None
  pub edit_is : edit ≡ edit_of line

-- ---- the values of an edit

-- both coordinates are lengths
abbrev pub IsPointInRange : Point → Type 0
IsPointInRange p = IsInRange p.x × IsInRange p.y

-- at most 500 mm
abbrev pub IsSize : ℕ → Type 0
IsSize n = n ≤ 500000000

-- below 2 ^ 32
abbrev pub IsWholeNumber : ℕ → Type 0
IsWholeNumber n = n < 2 ^ 32

-- it has the form of a name
abbrev pub IsName : Word → Type 0
IsName name = is_script_name name ≡ true

-- lengths are at most 500 mm, whole numbers below 2 ^ 32, and names of the form of names
unfoldable pub IsFormed : Edit → Type 0
IsFormed (Track from to width layer net stamp) = IsPointInRange from × IsPointInRange to × IsSize width × IsName layer × IsWholeNumber net × IsName stamp
IsFormed (Via at size drill top bottom net stamp) = IsPointInRange at × IsSize size × IsSize drill × IsName top × IsName bottom × IsWholeNumber net × IsName stamp
IsFormed (Drop stamp) = IsName stamp
IsFormed (Priority stamp value) = IsName stamp × IsWholeNumber value
IsFormed (Clearance stamp value) = IsName stamp × IsSize value

-- ---- the whole script

-- no line is faulty
abbrev pub AreLinesSound : List Line → Type 0
AreLinesSound lines = (before after : List Line) (line : Line) → lines ≡ before ++ line ∷ after → fault_of (length before) line ≡ None

-- no line of the script is faulty, and these are its edits in their order
pub record AreEdits (script : List ℕ) (edits : List Edit) : Type 0 where
  pub sound : AreLinesSound (lines_of script)
  pub edits_are : edits ≡ map edit_of (lines_of script)

-- the line is faulty, and none before it is
pub record IsFirstFault (script : List ℕ) (at : ℕ) (kind : EditKind) : Type 0 where
  pub before : List Line
  pub after : List Line
  pub line : Line
  pub stands : lines_of script ≡ before ++ line ∷ after
  pub sound : AreLinesSound before
  pub is_kind : fault_of (length before) line ≡ Some kind
  pub on_line : at ≡ line.number

-- ---- the same as one value

-- what a script says: its edits, or the line and the kind of its first fault
pub data Script : Type 0 where
  Edits : List Edit → Script
  Fault : (line : ℕ) (kind : EditKind) → Script

-- a fault of a line comes before what the lines behind it say
abbrev pub or_fault : Line → Option EditKind → Script → Script
or_fault line None script = script
or_fault line (Some kind) script = Fault line.number kind

-- an edit stands before those of the lines behind it; a fault of theirs stays
abbrev pub before_others : Edit → Script → Script
before_others edit (Edits edits) = Edits (edit ∷ edits)
before_others edit (Fault line kind) = Fault line kind

-- the lines behind so many edits
unfoldable pub script_from : ℕ → List Line → Script
script_from before [] = Edits []
script_from before (line ∷ lines) = or_fault line (fault_of before line) (before_others (edit_of line) (script_from (suc before) lines))

-- a script's edits, or its first fault
unfoldable pub script_of : List ℕ → Script
script_of script = script_from 0 (lines_of script)
