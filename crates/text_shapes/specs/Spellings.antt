-- How a text spells its items: the white space, the words, what stands between quotes, byte for byte.
use Rattle.std.specs.Prelude.{◌≡◌, ℕ, ◌+◌, ◌-◌, ◌<◌, Bool, true, false, ◌&&◌, not, ◌==◌, List, [], ◌∷◌, ◌++◌, length}
use Rattle.std.specs.List.{list_all}
use Rattle.sexpr_text.specs.Grammar.{Forest, is_space, is_word}
use Rattle.sexpr_text.specs.Grammar.Forest.{Nil, Word, Text, Group}
use Rattle.sexpr_text.specs.Items.{unescaped}
use Rattle.text_shapes.specs.Shapes.{Shape}
use Rattle.text_shapes.specs.Shapes.Shape.{Over, Bare, Quoted, Inside}

-- Items with the white space before each, and at the end. Of a string the bytes between its quotes stand here, as written.
pub data Spelling : Type 0 where
  Ends : (white : List ℕ) → Spelling
  Named : (white content : List ℕ) (rest : Spelling) → Spelling
  Strung : (white inside : List ℕ) (rest : Spelling) → Spelling
  Nested : (white : List ℕ) (inner rest : Spelling) → Spelling

-- its bytes
abbrev pub spelt_bytes : Spelling → List ℕ
spelt_bytes (Ends w) = w
spelt_bytes (Named w t rest) = w ++ (t ++ spelt_bytes rest)
spelt_bytes (Strung w t rest) = w ++ 34 ∷ (t ++ 34 ∷ spelt_bytes rest)
spelt_bytes (Nested w inner rest) = w ++ 40 ∷ (spelt_bytes inner ++ 41 ∷ spelt_bytes rest)

-- how many they are
abbrev pub width : Spelling → ℕ
width (Ends w) = length w
width (Named w t rest) = length w + (length t + width rest)
width (Strung w t rest) = length w + (1 + (length t + (1 + width rest)))
width (Nested w inner rest) = length w + (1 + (width inner + (1 + width rest)))

-- the contents of what it spells
abbrev pub contents : Spelling → Shape
contents (Ends w) = Over
contents (Named w t rest) = Bare t (contents rest)
contents (Strung w t rest) = Quoted (unescaped false t) (contents rest)
contents (Nested w inner rest) = Inside (contents inner) (contents rest)

-- the places of the items, where it stands at a place of a text
abbrev pub placed : ℕ → Spelling → Forest
placed at (Ends w) = Nil
placed at (Named w t rest) = Word (at + length w) (at + length w + length t) (placed (at + length w + length t) rest)
placed at (Strung w t rest) = Text (at + length w) (at + length w + (1 + (length t + 1))) (placed (at + length w + (1 + (length t + 1))) rest)
placed at (Nested w inner rest) =
    Group (at + length w) (at + length w + 1 + width inner + 1) (placed (at + length w + 1) inner) (placed (at + length w + 1 + width inner + 1) rest)

-- Between quotes: no quote that isn't escaped, and no backslash at the end that isn't. The flag says whether a backslash
-- stands before them.
abbrev pub is_string_inside : Bool → List ℕ → Bool
is_string_inside escaped [] = not escaped
is_string_inside true (c ∷ cs) = is_string_inside false cs
is_string_inside false (c ∷ cs) = not (c == 34) && is_string_inside (c == 92) cs

-- it begins with another byte than one of a word
abbrev pub is_apart : Spelling → Bool
is_apart (Ends w) = true
is_apart (Named [] t rest) = false
is_apart (Named (c ∷ w) t rest) = true
is_apart (Strung w t rest) = true
is_apart (Nested w inner rest) = true

-- its parts are what they are called, and no two words run together; lists are at most room deep
abbrev pub IsTextSpelling : ℕ → Spelling → Type 0
IsTextSpelling room (Ends w) = list_all is_space w ≡ true
IsTextSpelling room (Named w t rest) = (list_all is_space w ≡ true) × (0 < length t) × (list_all is_word t ≡ true) × (is_apart rest ≡ true) × IsTextSpelling room rest
IsTextSpelling room (Strung w t rest) = (list_all is_space w ≡ true) × (is_string_inside false t ≡ true) × IsTextSpelling room rest
IsTextSpelling room (Nested w inner rest) = (list_all is_space w ≡ true) × (0 < room) × IsTextSpelling (room - 1) inner × IsTextSpelling room rest
