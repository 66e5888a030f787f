-- The words of an edit: how many there are, what form each has, and what is wrong in a line.
--
--     track X1 Y1 X2 Y2 W LAYER NET STAMP          drop STAMP
--     via X Y SIZE DRILL LAYER1 LAYER2 NET STAMP   priority STAMP N
--                                                  clearance STAMP MM
use Rattle.std.specs.Prelude.{ℕ, ◌^◌, Bool, not, ◌&&◌, ◌||◌, ◌==◌, nat_le, nat_lt, is_none, if◌then◌else◌, List, [], ◌∷◌, length, codes, Option, None, Some}
use Rattle.std.specs.List.{list_all}
use Rattle.std.specs.Char.{is_ascii_digit, is_ascii_alphanumeric}
use Rattle.std.specs.Str.{bytes_eq}
use Rattle.grid_num.specs.Spelling.{number}
use Rattle.board_text.specs.Numbers.{length_fault, length_of}
use Rattle.board_text.specs.Items.{is_below_zero}
use Rattle.edit_language.specs.declared.edit.EditKind.{EditKind}
use Rattle.edit_language.specs.declared.edit.EditKind.TheVariants.{TooLong, BadWord, TooFewWords, TooManyWords, BadNumber}
use Rattle.edit_language.specs.Lines.{Word, Line}

-- what stands for what in a line
pub data Form : Type 0 where
  -- a length in millimetres
  Length : Form
  -- one that isn't negative
  Size : Form
  -- a whole number
  Whole : Form
  -- a layer or a stamp
  Name : Form

-- ---- the form of a word

-- a number of millimetres of at most six places, up to 500 mm to either side
abbrev pub is_length : Word → Bool
is_length word = is_none (length_fault word)

-- below 2 ^ 32, in at most ten digits
abbrev pub is_whole_word : Word → Bool
is_whole_word word = (list_all is_ascii_digit word && (not (length word == 0) && nat_le (length word) 10)) && nat_lt (number word) (2 ^ 32)

-- a letter, a digit, a point, a minus or an underscore
abbrev pub is_name_byte : ℕ → Bool
is_name_byte byte = is_ascii_alphanumeric byte || (byte == 46 || (byte == 45 || byte == 95))

-- 1 to 64 such bytes
abbrev pub is_script_name : Word → Bool
is_script_name word = list_all is_name_byte word && (not (length word == 0) && nat_le (length word) 64)

-- whether a word has the form that is wanted of it
abbrev pub has_form : Form → Word → Bool
has_form Length word = is_length word
has_form Size word = is_length word && not (is_below_zero (length_of word))
has_form Whole word = is_whole_word word
has_form Name word = is_script_name word

-- ---- the forms of a line

-- the forms of the words behind the first one, by the first one; none where that is no edit's
unfoldable pub forms_of : Word → Option (List Form)
forms_of word =
    if bytes_eq word (codes "track") then Some (Length ∷ Length ∷ Length ∷ Length ∷ Size ∷ Name ∷ Whole ∷ Name ∷ [])
    else (if bytes_eq word (codes "via") then Some (Length ∷ Length ∷ Size ∷ Size ∷ Name ∷ Name ∷ Whole ∷ Name ∷ [])
    else (if bytes_eq word (codes "drop") then Some (Name ∷ [])
    else (if bytes_eq word (codes "priority") then Some (Name ∷ Whole ∷ [])
    else (if bytes_eq word (codes "clearance") then Some (Name ∷ Size ∷ []) else None))))

-- ---- faults

-- what is wrong where a word of this form is wanted and another one stands
abbrev pub fault_for : Form → EditKind
fault_for Length = BadNumber
fault_for Size = BadNumber
fault_for Whole = BadNumber
fault_for Name = BadWord

-- the first word that isn't of its form
abbrev pub first_misfit : List Form → List Word → Option EditKind
first_misfit [] words = None
first_misfit (form ∷ forms) [] = None
first_misfit (form ∷ forms) (word ∷ words) = if has_form form word then first_misfit forms words else Some (fault_for form)

-- the number of words is tried before their forms; a first word that no edit begins with has no forms
abbrev pub fault_by : Option (List Form) → List Word → Option EditKind
fault_by None words = Some BadWord
fault_by (Some forms) words =
    if nat_lt (length words) (length forms) then Some TooFewWords
    else (if nat_lt (length forms) (length words) then Some TooManyWords else first_misfit forms words)

-- what is wrong with the words of a line, if something is
abbrev pub words_fault : List Word → Option EditKind
words_fault [] = Some BadWord
words_fault (word ∷ words) = fault_by (forms_of word) words

-- what is wrong in a line behind so many edits
unfoldable pub fault_of : ℕ → Line → Option EditKind
fault_of before line = if nat_le 10000 before then Some TooLong else words_fault line.words
