-- The place and the kind of a text's fault.
use Rattle.std.specs.Prelude.{◌≡◌, ℕ, ◌+◌, ◌≤◌, Bool, true, false, ◌==◌, ◌&&◌, ◌||◌, not, nat_lt, List, [], ◌∷◌, ◌++◌, length, take, find, slice_get, Option, Some, None, if◌then◌else◌}
use Rattle.std.specs.Str.{IsUtf8}
use Rattle.sexpr_text.specs.Grammar.{Forest, Spelt, is_space}
use Rattle.sexpr_text.specs.Grammar.Forest.{Nil, Word, Text, Group}
use Rattle.sexpr_text.specs.declared.error.TextKind.{TextKind}
use Rattle.sexpr_text.specs.declared.error.TextKind.TheVariants.{Empty, BadString, Unclosed, StrayClose, NotList, After, TooDeep, BadUtf8}
use Rattle.sexpr_text.specs.declared.error.TextError.{TextError}
use Rattle.sexpr_text.specs.declared.error.TextError.TheVariants.{Memory, Bad}

-- the first n bytes begin some text
pub record IsFront (bytes : List ℕ) (n : ℕ) : Type 0 where
  pub within : n ≤ length bytes
  pub more : List ℕ
  pub tree : Forest
  pub spelt : Spelt (take n bytes ++ more) tree

-- these bytes begin some UTF-8
abbrev pub IsUtf8Front : List ℕ → Type 0
IsUtf8Front bytes = (more : List ℕ) × IsUtf8 (bytes ++ more)

-- Where a place lies in a tree. A place lies inside what has begun before it and ends behind it.
pub data Where : Type 0 where
  -- the list has not begun
  Before : Where
  -- inside so many lists, and in no string
  Inside : (lists : ℕ) → Where
  Quoted : Where
  -- the list has ended
  Behind : Where

-- the place n lies behind the one place and before the other
abbrev pub is_inside : ℕ → ℕ → ℕ → Bool
is_inside n from to = nat_lt from n && nat_lt n to

-- where a place inside so many lists lies among the items of the innermost one
abbrev pub where_among : ℕ → ℕ → Forest → Where
where_among lists n Nil = Inside lists
where_among lists n (Word from to rest) = where_among lists n rest
where_among lists n (Text from to rest) = if is_inside n from to then Quoted else where_among lists n rest
where_among lists n (Group from to inner rest) = if is_inside n from to then where_among (lists + 1) n inner else where_among lists n rest

-- where a place lies in a text's tree
abbrev pub where_in : ℕ → Forest → Where
where_in n (Group from to inner Nil) = if nat_lt from n then (if nat_lt n to then where_among 1 n inner else Behind) else Before
where_in n other = Before

-- Whether a row of the table of kinds holds: by where the place lies, and the byte there or the end of the input.
abbrev pub is_row : TextKind → Where → Option ℕ → Bool
is_row Empty Before None = true
is_row BadString Quoted None = true
is_row Unclosed (Inside lists) None = true
is_row StrayClose Before (Some c) = c == 41
is_row NotList Before (Some c) = not (is_space c || c == 40 || c == 41)
is_row After Behind (Some c) = not (is_space c)
is_row TooDeep (Inside lists) (Some c) = (lists == 64) && (c == 40)
-- the byte could stand there, so that it can't continue the UTF-8
is_row BadUtf8 anywhere (Some c) = true
is_row kind anywhere byte = false

-- the rows are tried from the top
abbrev pub rows : List TextKind
rows = Empty ∷ BadString ∷ Unclosed ∷ StrayClose ∷ NotList ∷ After ∷ TooDeep ∷ BadUtf8 ∷ []

-- the kind of the first row that holds
abbrev pub first_row : Where → Option ℕ → Option TextKind
first_row place byte = find (λ kind. is_row kind place byte) rows

-- the longest front that begins some text ends here, and the whole is no text
pub record IsPlace (bytes : List ℕ) (at : ℕ) : Type 0 where
  pub front : IsFront bytes at
  pub longest : IsFront bytes (at + 1) → ⊥
  pub none : (tree : Forest) → Spelt bytes tree → ⊥

-- A text's fault. Where its place lies is seen in any text that begins as this one does up to there; all agree in it.
pub record IsFault (bytes : List ℕ) (at : ℕ) (kind : TextKind) : Type 0 where
  pub place : IsPlace bytes at
  pub of_kind : first_row (where_in at place.front.tree) (slice_get bytes at) ≡ Some kind

-- a refusal of a text tells its fault
abbrev pub IsRefused : List ℕ → TextError → Type 0
IsRefused bytes Memory = Unit {0}
IsRefused bytes (Bad fault) = IsFault bytes fault.at fault.kind
