-- Texts that are put together from white space, words, strings and lists.
use Rattle.std.specs.Prelude.{◌≡◌, ℕ, ◌+◌, ◌-◌, Bool, true, false, ◌&&◌, not, ◌==◌, nat_lt, List, [], ◌∷◌, ◌++◌, length}
use Rattle.std.specs.List.{list_all}
use Rattle.sexpr_text.specs.Grammar.{is_space, is_word}
use Rattle.text_shapes.specs.Shapes.{Shape}
use Rattle.text_shapes.specs.Shapes.Shape.{Over, Bare, Quoted, Inside}

-- A text that is put together: white space before each item, and at the end.
pub data Layout : Type 0 where
  End : (white : List ℕ) → Layout
  Name : (white content : List ℕ) (rest : Layout) → Layout
  Said : (white content : List ℕ) (rest : Layout) → Layout
  Listed : (white : List ℕ) (inner rest : Layout) → Layout

-- its text, with what stands behind it
abbrev pub render : Layout → List ℕ → List ℕ
render (End w) tail = w ++ tail
render (Name w t rest) tail = w ++ (t ++ render rest tail)
render (Said w t rest) tail = w ++ 34 ∷ (t ++ 34 ∷ render rest tail)
render (Listed w inner rest) tail = w ++ 40 ∷ render inner (41 ∷ render rest tail)

-- its contents
abbrev pub shape : Layout → Shape
shape (End w) = Over
shape (Name w t rest) = Bare t (shape rest)
shape (Said w t rest) = Quoted t (shape rest)
shape (Listed w inner rest) = Inside (shape inner) (shape rest)

-- a byte of a word, of one byte in UTF-8
abbrev pub is_plain : ℕ → Bool
is_plain c = is_word c && nat_lt c 128

abbrev pub is_plain_word : List ℕ → Bool
is_plain_word t = not (length t == 0) && list_all is_plain t

-- a byte that may stand in a string as it is
abbrev pub is_said : ℕ → Bool
is_said c = not (c == 34) && (not (c == 92) && nat_lt c 128)

-- it begins with another byte than one of a word
abbrev pub starts_apart : Layout → Bool
starts_apart (End w) = true
starts_apart (Name [] t rest) = false
starts_apart (Name (c ∷ w) t rest) = true
starts_apart (Said w t rest) = true
starts_apart (Listed w inner rest) = true

-- its parts are what they are called, with lists at most room deep
abbrev pub is_good : ℕ → Layout → Bool
is_good room (End w) = list_all is_space w
is_good room (Name w t rest) = list_all is_space w && (is_plain_word t && (starts_apart rest && is_good room rest))
is_good room (Said w t rest) = list_all is_space w && (list_all is_said t && is_good room rest)
is_good room (Listed w inner rest) = list_all is_space w && (nat_lt 0 room && (is_good (room - 1) inner && is_good room rest))

-- what isn't a byte of a word comes next
abbrev pub EndsWord : List ℕ → Type 0
EndsWord [] = Unit {0}
EndsWord (c ∷ cs) = is_word c ≡ false

abbrev pub size : Layout → ℕ
size (End w) = length w
size (Name w t rest) = length w + (length t + size rest)
size (Said w t rest) = length w + (1 + (length t + (1 + size rest)))
size (Listed w inner rest) = length w + (1 + (size inner + (1 + size rest)))

abbrev pub laid_bytes : Layout → List ℕ
laid_bytes (End w) = w
laid_bytes (Name w t rest) = w ++ (t ++ laid_bytes rest)
laid_bytes (Said w t rest) = w ++ 34 ∷ (t ++ 34 ∷ laid_bytes rest)
laid_bytes (Listed w inner rest) = w ++ 40 ∷ (laid_bytes inner ++ 41 ∷ laid_bytes rest)
