-- The lines of an edit script, and the words of a line.
use Rattle.std.specs.Prelude.{ℕ, suc, Bool, true, false, not, ◌||◌, ◌==◌, cond, List, [], ◌∷◌, filter}
use Rattle.grid_num.specs.Parts.{begins_with}

-- a word is its bytes
abbrev pub Word : Type 0
Word = List ℕ

-- a byte before the first piece
abbrev pub onto_first : ℕ → List (List ℕ) → List (List ℕ)
onto_first byte [] = (byte ∷ []) ∷ []
onto_first byte (piece ∷ pieces) = (byte ∷ piece) ∷ pieces

-- The pieces of a text between the bytes at which it is parted. There is one piece more than there are such bytes, and a
-- piece may have no byte.
unfoldable pub pieces : (ℕ → Bool) → List ℕ → List (List ℕ)
pieces is_end [] = [] ∷ []
pieces is_end (byte ∷ bytes) = cond (is_end byte) ([] ∷ pieces is_end bytes) (onto_first byte (pieces is_end bytes))

-- lines end with a line feed; the last may lack it
abbrev pub is_line_feed : ℕ → Bool
is_line_feed byte = byte == 10

-- words stand apart by spaces and tabs, and a carriage return counts as a space
abbrev pub is_blank : ℕ → Bool
is_blank byte = byte == 32 || (byte == 9 || byte == 13)

-- whether there is a byte at all
abbrev pub has_bytes : List ℕ → Bool
has_bytes [] = false
has_bytes (byte ∷ bytes) = true

-- the words of a line: what stands between its blanks
unfoldable pub words_of : List ℕ → List Word
words_of line = filter has_bytes (pieces is_blank line)

-- a line without a word, and one whose first word begins with #, are passed over
abbrev pub is_passed_over : List Word → Bool
is_passed_over [] = true
is_passed_over (word ∷ words) = begins_with word 35

-- a line with its number
pub record Line : Type 0 where
  pub number : ℕ
  pub words : List Word

-- the lines, numbered from n on
abbrev pub numbered_lines : ℕ → List (List ℕ) → List Line
numbered_lines n [] = []
numbered_lines n (line ∷ lines) = record { number = n; words = words_of line } ∷ numbered_lines (suc n) lines

-- the lines of a script that aren't passed over, with their numbers among all lines, from 1
unfoldable pub lines_of : List ℕ → List Line
lines_of script = filter (λ line. not (is_passed_over line.words)) (numbered_lines 1 (pieces is_line_feed script))
