-- The grammar of a text, by cases on its tree. A place is a number of bytes from the start.
--
--     ( a   "b c"   ( d ) )      a list with a word, a string and a list; places 0 to 21
use Rattle.std.specs.Prelude.{◌≡◌, ℕ, zero, suc, ◌+◌, ◌-◌, ◌<◌, ◌≤◌, Bool, true, false, ◌&&◌, ◌||◌, not, ◌==◌, List, length, slice_index}
use Rattle.std.specs.Str.{IsUtf8}

-- The items of a list in order. Each has the place of its first byte and the place behind its last one.
pub data Forest : Type 0 where
  Nil : Forest
  Word : (from to : ℕ) (rest : Forest) → Forest
  Text : (from to : ℕ) (rest : Forest) → Forest
  Group : (from to : ℕ) (inner rest : Forest) → Forest

-- white space: space, tab, carriage return, line feed
abbrev pub is_space : ℕ → Bool
is_space c = c == 32 || c == 9 || c == 13 || c == 10

-- a byte that may stand in a word: no white space, parenthesis or quote
abbrev pub is_word : ℕ → Bool
is_word c = not (is_space c || c == 40 || c == 41 || c == 34)

-- each byte of these places passes
abbrev pub HoldsBetween : (ℕ → Bool) → List ℕ → ℕ → ℕ → Type 0
HoldsBetween p bytes from to = (k : ℕ) → from ≤ k → k < to → p (slice_index bytes k) ≡ true

-- white space from one place to another
pub record IsWhite (bytes : List ℕ) (from to : ℕ) : Type 0 where
  pub order : from ≤ to
  pub within : to ≤ length bytes
  pub each : HoldsBetween is_space bytes from to

-- a longest run of bytes of a word
pub record IsWord (bytes : List ℕ) (from to : ℕ) : Type 0 where
  pub order : from < to
  pub within : to ≤ length bytes
  pub each : HoldsBetween is_word bytes from to
  pub longest : to < length bytes → is_word (slice_index bytes to) ≡ false

-- A byte in a string is escaped where a backslash that isn't escaped stands directly before it.
-- The byte stands n places behind the first one inside the string.
abbrev pub is_escaped : List ℕ → ℕ → ℕ → Bool
is_escaped bytes inside zero = false
is_escaped bytes inside (suc n) = not (is_escaped bytes inside n) && slice_index bytes (inside + n) == 92

-- a string: from a quote up to the next quote that isn't escaped
pub record IsString (bytes : List ℕ) (from to : ℕ) : Type 0 where
  pub opening : slice_index bytes from ≡ 34
  pub order : from + 1 < to
  pub within : to ≤ length bytes
  pub closing : slice_index bytes (to - 1) ≡ 34
  pub ends : is_escaped bytes (from + 1) (to - 1 - (from + 1)) ≡ false
  pub first : (k : ℕ) → from + 1 + k < to - 1 → slice_index bytes (from + 1 + k) ≡ 34 → is_escaped bytes (from + 1) k ≡ true

-- the parentheses of a list, where lists may still be room deep
pub record IsBracket (bytes : List ℕ) (room from to : ℕ) : Type 0 where
  pub opening : slice_index bytes from ≡ 40
  pub order : from + 1 < to
  pub within : to ≤ length bytes
  pub closing : slice_index bytes (to - 1) ≡ 41
  pub deep : 0 < room

-- The bytes from one place to another spell these items, apart by any white space, with lists at most room deep.
abbrev pub Items : List ℕ → ℕ → ℕ → ℕ → Forest → Type 0
Items bytes room at end Nil = IsWhite bytes at end
Items bytes room at end (Word from to rest) = IsWhite bytes at from × IsWord bytes from to × Items bytes room to end rest
Items bytes room at end (Text from to rest) = IsWhite bytes at from × IsString bytes from to × Items bytes room to end rest
Items bytes room at end (Group from to inner rest) =
    IsWhite bytes at from × IsBracket bytes room from to × Items bytes (room - 1) (from + 1) (to - 1) inner × Items bytes room to end rest

-- one list, and nothing beside it
abbrev pub IsOneList : Forest → Type 0
IsOneList (Group from to inner Nil) = Unit {0}
IsOneList other = ⊥

-- A text is UTF-8, and white space, one list, white space.
pub record Spelt (bytes : List ℕ) (tree : Forest) : Type 0 where
  pub utf8 : IsUtf8 bytes
  pub list : IsOneList tree
  pub items : Items bytes 64 0 (length bytes) tree
