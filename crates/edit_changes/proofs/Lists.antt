-- Lists as edits write them, as spellings.
use Rattle.std.proofs.Common.{◌≡◌, ◌∙◌, refl, ap, sym, ℕ, ◌-◌, ◌<◌, true, false, List, [], ◌∷◌, ◌++◌, map, length, codes, append_assoc}
use Rattle.std.specs.List.{list_all}
use Rattle.sexpr_text.specs.Grammar.{is_word}
use Rattle.text_shapes.specs.Spellings.{Spelling, spelt_bytes, is_string_inside, is_apart, IsTextSpelling}
use Rattle.text_shapes.specs.Spellings.Spelling.{Ends, Named, Strung, Nested}
use Rattle.edit_language.specs.Splices.{values_text, list_text}

-- what stands in a list behind its head: a word, a string, a list
pub data Value : Type 0 where
  Word : (content : List ℕ) → Value
  Text : (inside : List ℕ) → Value
  Lists : (inner : Spelling) → Value

abbrev pub value_bytes : Value → List ℕ
value_bytes (Word t) = t
value_bytes (Text t) = 34 ∷ (t ++ 34 ∷ [])
value_bytes (Lists inner) = 40 ∷ (spelt_bytes inner ++ 41 ∷ [])

abbrev pub value_before : Value → Spelling → Spelling
value_before (Word t) rest = Named (codes " ") t rest
value_before (Text t) rest = Strung (codes " ") t rest
value_before (Lists inner) rest = Nested (codes " ") inner rest

abbrev pub values_spelt : List Value → Spelling
values_spelt [] = Ends []
values_spelt (v ∷ vs) = value_before v (values_spelt vs)

-- what is inside a list of this head and these values
abbrev pub list_spelt : List ℕ → List Value → Spelling
list_spelt name vs = Named [] name (values_spelt vs)

before_bytes : (v : Value) (rest : Spelling) → spelt_bytes (value_before v rest) ≡ codes " " ++ (value_bytes v ++ spelt_bytes rest)
before_bytes (Word t) rest = refl
before_bytes (Text t) rest = ap (λ z. 32 ∷ 34 ∷ z) (sym (append_assoc t (34 ∷ []) (spelt_bytes rest)))
before_bytes (Lists inner) rest = ap (λ z. 32 ∷ 40 ∷ z) (sym (append_assoc (spelt_bytes inner) (41 ∷ []) (spelt_bytes rest)))

values_are : (vs : List Value) → values_text (map value_bytes vs) ≡ spelt_bytes (values_spelt vs)
unfolding values_text
values_are [] = refl
values_are (v ∷ vs) = ap (λ z. codes " " ++ (value_bytes v ++ z)) (values_are vs) ∙ sym (before_bytes v (values_spelt vs))

-- a list as it is written
pub list_is : (name : List ℕ) (vs : List Value) → list_text name (map value_bytes vs) ≡ value_bytes (Lists (list_spelt name vs))
unfolding list_text
list_is name vs = ap (λ z. 40 ∷ (name ++ (z ++ 41 ∷ []))) (values_are vs) ∙ ap (λ z. 40 ∷ z) (sym (append_assoc name (spelt_bytes (values_spelt vs)) (41 ∷ [])))

-- ---- values are what they are called

abbrev pub IsGoodValue : ℕ → Value → Type 0
IsGoodValue room (Word t) = (0 < length t) × (list_all is_word t ≡ true)
IsGoodValue room (Text t) = is_string_inside false t ≡ true
IsGoodValue room (Lists inner) = (0 < room) × IsTextSpelling (room - 1) inner

abbrev pub AreGoodValues : ℕ → List Value → Type 0
AreGoodValues room [] = Unit {0}
AreGoodValues room (v ∷ vs) = IsGoodValue room v × AreGoodValues room vs

value_apart : (v : Value) (rest : Spelling) → is_apart (value_before v rest) ≡ true
value_apart (Word t) rest = refl
value_apart (Text t) rest = refl
value_apart (Lists inner) rest = refl

values_apart : (vs : List Value) → is_apart (values_spelt vs) ≡ true
values_apart [] = refl
values_apart (v ∷ vs) = value_apart v (values_spelt vs)

value_good : (room : ℕ) (v : Value) (rest : Spelling) → IsGoodValue room v → is_apart rest ≡ true → IsTextSpelling room rest → IsTextSpelling room (value_before v rest)
value_good room (Word t) rest h a g = (refl, h.0, h.1, a, g)
value_good room (Text t) rest h a g = (refl, h, g)
value_good room (Lists inner) rest h a g = (refl, h.0, h.1, g)

values_good : (room : ℕ) (vs : List Value) → AreGoodValues room vs → IsTextSpelling room (values_spelt vs)
values_good room [] h = refl
values_good room (v ∷ vs) h = value_good room v (values_spelt vs) h.0 (values_apart vs) (values_good room vs h.1)

pub list_good : (room : ℕ) (name : List ℕ) (vs : List Value) → 0 < length name → list_all is_word name ≡ true → AreGoodValues room vs → IsTextSpelling room (list_spelt name vs)
list_good room name vs l a h = (refl, l, a, values_apart vs, values_good room vs h)
