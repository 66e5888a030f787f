-- The numbers of a board: what a text spells, what is wrong with one that spells none, and which texts are wanted.
use Rattle.std.specs.Prelude.{ℕ, ◌+◌, ◌-◌, ◌^◌, ◌/◌, ◌%◌, Bool, true, false, not, ◌&&◌, ◌||◌, ◌==◌, nat_lt, nat_le, if◌then◌else◌, List, [], ◌∷◌, ◌++◌, length, take, drop, slice_get, Option, None, Some, ℤ, pos}
use Rattle.std.specs.List.{list_all, list_any}
use Rattle.std.specs.Char.{is_ascii_digit}
use Rattle.std.specs.Option.{option_or}
use Rattle.grid_num.specs.Spelling.{number}
use Rattle.grid_num.specs.Length.{nanometres, with_sign}
use Rattle.grid_num.specs.Area.{millionths}
use Rattle.grid_num.specs.Parts.{begins_with, whole_of, fraction_of}
use Rattle.grid_num.specs.declared.read.NumFault.{NumFault}
use Rattle.grid_num.specs.declared.read.NumFault.TheVariants.{NotANumber, TooFine, OutOfRange}
use Rattle.sexpr_text.specs.Items.{Item}
use Rattle.board_text.specs.Lists.{behind_head}
use Rattle.board_text.specs.Fields.{list_of, text_of, text_at}

-- all digits are 0
abbrev pub are_zeros : List ℕ → Bool
are_zeros digits = list_all (λ digit. digit == 48) digits

-- a decimal: an optional sign, digits, and an optional point with digits; at least one digit stands somewhere
abbrev pub is_decimal : List ℕ → Bool
is_decimal text = list_all is_ascii_digit (fraction_of text) && not (length (whole_of text) + length (fraction_of text) == 0)

-- no place past the sixth has another digit than 0
abbrev pub is_fine : List ℕ → Bool
is_fine text = are_zeros (drop 6 (fraction_of text))

-- it begins with a minus
abbrev pub is_negative : List ℕ → Bool
is_negative text = begins_with text 45

-- a decimal that is 0
abbrev pub is_zero : List ℕ → Bool
is_zero text = is_decimal text && (are_zeros (whole_of text) && are_zeros (fraction_of text))

-- A text that spells no number counts as 0: the board is refused then, whatever the rest says.
abbrev pub or_zero : {X : Type 0} → X → X → Option NumFault → X
or_zero value zero None = value
or_zero value zero (Some fault) = zero

-- ---- lengths: millimetres, read as nanometres

-- what is wrong with a text from which a length is wanted: the number, its places behind the sixth, its range
unfoldable pub length_fault : List ℕ → Option NumFault
length_fault text =
    if not (is_decimal text) then Some NotANumber
    else (if not (is_fine text) then Some TooFine
    else (if nat_lt 500000000 (nanometres (whole_of text) (fraction_of text)) then Some OutOfRange else None))

-- the nanometres that a text spells
unfoldable pub length_of : List ℕ → ℤ
length_of text = or_zero (with_sign (is_negative text) (nanometres (whole_of text) (fraction_of text))) (pos 0) (length_fault text)

-- ---- areas: square millimetres, read as millionths of one

-- below 0, or beyond 1,000,000 square millimetres
abbrev pub is_no_area : Bool → ℕ → Bool
is_no_area negative area = (negative && nat_lt 0 area) || nat_lt 1000000000000 area

-- what is wrong with a text from which an area is wanted: the number, its places behind the sixth, its range
unfoldable pub area_fault : List ℕ → Option NumFault
area_fault text =
    if not (is_decimal text) then Some NotANumber
    else (if not (is_fine text) then Some TooFine
    else (if is_no_area (is_negative text) (millionths (whole_of text) (fraction_of text)) then Some OutOfRange else None))

-- the millionths of a square millimetre that a text spells
unfoldable pub area_number : List ℕ → ℕ
area_number text = or_zero (millionths (whole_of text) (fraction_of text)) 0 (area_fault text)

-- ---- whole numbers: one or more digits, below 2 ^ 32

-- what is wrong with a text from which a whole number is wanted
unfoldable pub whole_fault : List ℕ → Option NumFault
whole_fault text =
    if not (list_all is_ascii_digit text) || (length text == 0) then Some NotANumber
    else (if nat_lt (number text) (2 ^ 32) then None else Some OutOfRange)

-- the whole number that a text spells
unfoldable pub whole_number : List ℕ → ℕ
whole_number text = or_zero (number text) 0 (whole_fault text)

-- ---- ratios: decimals in ten-thousand-millionths; places past the tenth are dropped

-- the first ten places behind the point
abbrev pub ten_places : List ℕ → List ℕ
ten_places fraction = take 10 (fraction ++ (48 ∷ 48 ∷ 48 ∷ 48 ∷ 48 ∷ 48 ∷ 48 ∷ 48 ∷ 48 ∷ 48 ∷ []))

-- what is wrong with a text from which a ratio is wanted
unfoldable pub ratio_fault : List ℕ → Option NumFault
ratio_fault text = if is_decimal text then None else Some NotANumber

-- the ten-thousand-millionths that a text spells
unfoldable pub ratio_of : List ℕ → ℤ
ratio_of text = or_zero (with_sign (is_negative text) (number (whole_of text ++ ten_places (fraction_of text)))) (pos 0) (ratio_fault text)

-- ---- angles: degrees, with at most six decimal places, from -360 to 360

-- a turn by n quarters to the left, or to the right where the angle is negative, as one of the four to the left
abbrev pub turned : Bool → ℕ → ℕ
turned false n = n % 4
turned true n = (4 - n % 4) % 4

-- how many quarter turns the text spells; none where it spells no multiple of 90 degrees
unfoldable pub quarter_turns : List ℕ → Option ℕ
quarter_turns text =
    if is_decimal text && (nat_le (length (fraction_of text)) 6 && (are_zeros (fraction_of text) && (nat_le (number (whole_of text)) 360 && (number (whole_of text) % 90 == 0))))
    then Some (turned (is_negative text) (number (whole_of text) / 90)) else None

-- ---- numbers at their places

-- of several numbers the first that can't be read counts
abbrev pub first_of : List (Option NumFault) → Option NumFault
first_of [] = None
first_of (fault ∷ faults) = option_or fault (first_of faults)

-- where no text stands, no number does
abbrev pub text_fault : (List ℕ → Option NumFault) → Option (List ℕ) → Option NumFault
text_fault read None = Some NotANumber
text_fault read (Some text) = read text

-- what is wrong with an item from which a number is wanted, by its reading; a list spells no number
abbrev pub item_fault : (List ℕ → Option NumFault) → List ℕ → Item → Option NumFault
item_fault read bytes item = text_fault read (text_of bytes item)

-- what is wrong with an item that may be absent
abbrev pub if_there : (List ℕ → Option NumFault) → List ℕ → Option Item → Option NumFault
if_there read bytes None = None
if_there read bytes (Some item) = item_fault read bytes item

-- what is wrong with the number at a place behind the head of a list; nothing where no item stands there
abbrev pub fault_at : (List ℕ → Option NumFault) → List ℕ → ℕ → Option Item → Option NumFault
fault_at read bytes place None = None
fault_at read bytes place (Some list) = if_there read bytes (slice_get (behind_head list) place)

-- what is wrong with the length at a place of a list
abbrev pub length_fault_at : List ℕ → ℕ → Option Item → Option NumFault
length_fault_at bytes place list = fault_at length_fault bytes place list

-- what is wrong with the area at a place of a list
abbrev pub area_fault_at : List ℕ → ℕ → Option Item → Option NumFault
area_fault_at bytes place list = fault_at area_fault bytes place list

-- what is wrong with the whole number at a place of a list
abbrev pub whole_fault_at : List ℕ → ℕ → Option Item → Option NumFault
whole_fault_at bytes place list = fault_at whole_fault bytes place list

-- what is wrong with the ratio at a place of a list
abbrev pub ratio_fault_at : List ℕ → ℕ → Option Item → Option NumFault
ratio_fault_at bytes place list = fault_at ratio_fault bytes place list

-- a point is two lengths
abbrev pub point_fault : List ℕ → Option Item → Option NumFault
point_fault bytes list = first_of (length_fault_at bytes 0 list ∷ length_fault_at bytes 1 list ∷ [])

-- behind the head of a list that may be absent, as many numbers as stated are wanted, and fewer items stand there
abbrev pub is_short : ℕ → Option Item → Bool
is_short n None = false
is_short n (Some list) = nat_lt (length (behind_head list)) n

-- a list with one of these heads is there, with fewer than n items
abbrev pub has_short : List ℕ → ℕ → List (List ℕ) → Item → Bool
has_short bytes n names item = list_any (λ name. is_short n (list_of bytes name item)) names

-- ---- the numbers that are read

-- what a text is read as; where there is none, what stands for it
abbrev pub read_or : {X : Type 0} → (List ℕ → X) → X → Option (List ℕ) → X
read_or read absent None = absent
read_or read absent (Some text) = read text

-- the value that is spelt at a place of a list, by its reading; where the list is absent, what stands for it
abbrev pub value_at : {X : Type 0} → (List ℕ → X) → List ℕ → ℕ → X → Option Item → X
value_at read bytes place absent None = absent
value_at read bytes place absent (Some list) = read_or read absent (text_at bytes place list)

-- the length at a place of a list; 0 where none stands there
abbrev pub length_at : List ℕ → ℕ → Option Item → ℤ
length_at bytes place list = value_at length_of bytes place (pos 0) list
