-- Each text is that of a spelling: of its items, with what stands between them.
use Rattle.std.proofs.Common.{◌≡◌, ◌∙◌, refl, ap, sym, ℕ, zero, suc, ◌+◌, ◌-◌, ◌<◌, ◌≤◌, Bool, true, false, ◌&&◌, not, ◌==◌, List, [], ◌∷◌, ◌++◌, length, take, drop, get_or, slice_index, slice_range, arith, length-drop, drop-cons}
use Rattle.std.specs.List.{list_all}
use Rattle.std.proofs.lemmas.Bool.{false≢true}
use Rattle.std.proofs.lemmas.Bool.Decides.{nat_tests}
use Rattle.std.proofs.lemmas.List.{length-take-le, drop-drop}
use Rattle.sexpr_text.specs.Grammar.{Forest, Items, IsWhite, IsString, HoldsBetween, is_space, is_word, is_escaped}
use Rattle.sexpr_text.specs.Grammar.Forest.{Nil, Word, Text, Group}
use Rattle.sexpr_text.specs.Items.{unescaped}
use Rattle.sexpr_text.proofs.Local.{items_order}
use Rattle.text_shapes.specs.Shapes.{forest_shape}
use Rattle.text_shapes.specs.Shapes.Shape.{Bare, Quoted, Inside}
use Rattle.text_shapes.specs.Spellings.{Spelling, spelt_bytes, width, contents, placed, is_string_inside, is_apart, IsTextSpelling}
use Rattle.text_shapes.specs.Spellings.Spelling.{Ends, Named, Strung, Nested}

-- ---- pieces of a text

none_taken : (xs : List ℕ) → xs ≡ [] → (n : ℕ) → take n xs ≡ []
none_taken [] e zero = refl
none_taken [] e (suc n) = refl
none_taken (x ∷ xs) e n = absurd (omega (arith, ap length e))

take_more : (j k : ℕ) (xs : List ℕ) → take j xs ++ take k (drop j xs) ≡ take (j + k) xs
take_more zero k xs = let e : 0 + k ≡ k = omega arith in ap (λ n. take n xs) (sym e)
take_more (suc j) k [] = none_taken [] refl k ∙ sym (none_taken [] refl (suc j + k))
take_more (suc j) k (x ∷ xs) = let e : suc j + k ≡ suc (j + k) = omega arith in ap (λ z. x ∷ z) (take_more j k xs) ∙ ap (λ n. take n (x ∷ xs)) (sym e)

pub join : (bytes : List ℕ) (at m n : ℕ) → at ≤ m → m ≤ n → slice_range bytes at m ++ slice_range bytes m n ≡ slice_range bytes at n
join bytes at m n l k =
    let a : m - at + at ≡ m = omega arith in
    let b : m - at + (n - m) ≡ n - at = omega arith in
    let c : at + (m - at) ≡ m = omega arith in
    ap (λ z. take (m - at) (drop at bytes) ++ take (n - m) z) (sym (drop-drop (m - at) at bytes ∙ ap (λ z. drop z bytes) c))
    ∙ take_more (m - at) (n - m) (drop at bytes) ∙ ap (λ z. take z (drop at bytes)) b

pub first_of : (bytes : List ℕ) (m n : ℕ) → m < n → m < length bytes → slice_range bytes m n ≡ slice_index bytes m ∷ slice_range bytes (m + 1) n
first_of bytes m n l k =
    let a : n - m ≡ suc (n - (m + 1)) = omega arith in
    let b : suc m ≡ m + 1 = omega arith in
    ap (take (n - m)) (drop-cons bytes m 0 k) ∙ ap (λ z. take z (get_or bytes m 0 ∷ drop (suc m) bytes)) a ∙ ap (λ z. slice_index bytes m ∷ take (n - (m + 1)) (drop z bytes)) b

pub length-piece : (bytes : List ℕ) (m n : ℕ) → m ≤ n → n ≤ length bytes → length (slice_range bytes m n) ≡ n - m
length-piece bytes m n l k = length-take-le (n - m) (drop m bytes) (omega (arith, length-drop m bytes))

none_between : (bytes : List ℕ) (m n : ℕ) → n ≤ m → slice_range bytes m n ≡ []
none_between bytes m n l = let e : n - m ≡ 0 = omega arith in ap (λ z. take z (drop m bytes)) e

-- each byte of a piece passes
all_between : (p : ℕ → Bool) (bytes : List ℕ) (k m n : ℕ) → m + k ≡ n → n ≤ length bytes → HoldsBetween p bytes m n → list_all p (slice_range bytes m n) ≡ true
all_between p bytes zero m n e l h = ap (list_all p) (none_between bytes m n (omega arith))
all_between p bytes (suc k) m n e l h =
    ap (list_all p) (first_of bytes m n (omega arith) (omega arith))
    ∙ ap (λ b. b && list_all p (slice_range bytes (m + 1) n)) (h m (omega arith) (omega arith))
    ∙ all_between p bytes k (m + 1) n (omega arith) l (λ i low high. h i (omega (arith, low)) high)

-- ---- strings

not_quote : (c : ℕ) → (c ≡ 34 → ⊥) → not (c == 34) ≡ true
not_quote c h = pick (c == 34) refl
  where
    pick : (b : Bool) → (c == 34) ≡ b → not b ≡ true
    pick true e = absurd (h (same c e))
      where
        same : (n : ℕ) → (n == 34) ≡ true → n ≡ 34
        same n e = grind (arith, nat_tests)
    pick false e = refl

inside_from : (bytes : List ℕ) (inside last k n : ℕ) (b : Bool) → n + k ≡ last → inside + last ≤ length bytes → is_escaped bytes inside n ≡ b → is_escaped bytes inside last ≡ false
    → ((i : ℕ) → i < last → slice_index bytes (inside + i) ≡ 34 → is_escaped bytes inside i ≡ true) → is_string_inside b (slice_range bytes (inside + n) (inside + last)) ≡ true
inside_from bytes inside last zero n b e l s ends first =
    let same : n ≡ last = omega arith in
    ap (is_string_inside b) (none_between bytes (inside + n) (inside + last) (omega arith)) ∙ ap not (sym s ∙ ap (is_escaped bytes inside) same ∙ ends)
inside_from bytes inside last (suc k) n b e l s ends first =
    let next : inside + n + 1 ≡ inside + suc n = omega arith in
    ap (is_string_inside b) (first_of bytes (inside + n) (inside + last) (omega arith) (omega arith) ∙ ap (λ m. slice_index bytes (inside + n) ∷ slice_range bytes m (inside + last)) next)
    ∙ by_state b s (λ f h. inside_from bytes inside last k (suc n) f (omega arith) l h ends first)
  where
    by_state : (b : Bool) → is_escaped bytes inside n ≡ b
        → ((f : Bool) → is_escaped bytes inside (suc n) ≡ f → is_string_inside f (slice_range bytes (inside + suc n) (inside + last)) ≡ true)
        → is_string_inside b (slice_index bytes (inside + n) ∷ slice_range bytes (inside + suc n) (inside + last)) ≡ true
    by_state true s more = more false (ap (λ f. not f && slice_index bytes (inside + n) == 92) s)
    by_state false s more =
        ap (λ f. f && is_string_inside (slice_index bytes (inside + n) == 92) (slice_range bytes (inside + suc n) (inside + last)))
        (not_quote (slice_index bytes (inside + n)) (λ q. false≢true (sym s ∙ first n (omega arith) q)))
        ∙ more (slice_index bytes (inside + n) == 92) (ap (λ f. not f && slice_index bytes (inside + n) == 92) s)

string_inside : (bytes : List ℕ) (from to : ℕ) → IsString bytes from to → is_string_inside false (slice_range bytes (from + 1) (to - 1)) ≡ true
string_inside bytes from to s =
    let a : from + 1 + 0 ≡ from + 1 = omega arith in
    let b : from + 1 + (to - 1 - (from + 1)) ≡ to - 1 = omega (arith, s.order) in
    ap (is_string_inside false) (ap (λ m. slice_range bytes m (to - 1)) (sym a) ∙ ap (slice_range bytes (from + 1 + 0)) (sym b))
    ∙ inside_from bytes (from + 1) (to - 1 - (from + 1)) (to - 1 - (from + 1)) 0 false (omega arith) (omega (arith, s.within, s.order)) refl s.ends (λ i l q. s.first i (omega (arith, l, s.order)) q)

-- ---- the whole

-- what the items of a text are spelt by
abbrev pub spell : List ℕ → ℕ → ℕ → Forest → Spelling
spell bytes at end Nil = Ends (slice_range bytes at end)
spell bytes at end (Word from to rest) = Named (slice_range bytes at from) (slice_range bytes from to) (spell bytes to end rest)
spell bytes at end (Text from to rest) = Strung (slice_range bytes at from) (slice_range bytes (from + 1) (to - 1)) (spell bytes to end rest)
spell bytes at end (Group from to inner rest) = Nested (slice_range bytes at from) (spell bytes (from + 1) (to - 1) inner) (spell bytes to end rest)

pub spell_contents : (bytes : List ℕ) (at end : ℕ) (f : Forest) → contents (spell bytes at end f) ≡ forest_shape bytes f
spell_contents bytes at end Nil = refl
spell_contents bytes at end (Word from to rest) = ap (Bare (slice_range bytes from to)) (spell_contents bytes to end rest)
spell_contents bytes at end (Text from to rest) = ap (Quoted (unescaped false (slice_range bytes (from + 1) (to - 1)))) (spell_contents bytes to end rest)
spell_contents bytes at end (Group from to inner rest) =
    ap (λ x. Inside x (contents (spell bytes to end rest))) (spell_contents bytes (from + 1) (to - 1) inner) ∙ ap (Inside (forest_shape bytes inner)) (spell_contents bytes to end rest)

pub end_within : (bytes : List ℕ) (room at end : ℕ) (f : Forest) → Items bytes room at end f → end ≤ length bytes
end_within bytes room at end Nil i = i.within
end_within bytes room at end (Word from to rest) i = end_within bytes room to end rest i.2
end_within bytes room at end (Text from to rest) i = end_within bytes room to end rest i.2
end_within bytes room at end (Group from to inner rest) i = end_within bytes room to end rest i.3

-- a piece that begins and ends with these bytes
between_two : (bytes : List ℕ) (from to end opens close : ℕ) → from + 1 < to → to ≤ end → end ≤ length bytes → slice_index bytes from ≡ opens → slice_index bytes (to - 1) ≡ close
    → opens ∷ (slice_range bytes (from + 1) (to - 1) ++ close ∷ slice_range bytes to end) ≡ slice_range bytes from end
between_two bytes from to end opens close l k m o c =
    let a : to - 1 + 1 ≡ to = omega arith in
    ap (λ z. opens ∷ (slice_range bytes (from + 1) (to - 1) ++ z))
    (ap (λ z. z ∷ slice_range bytes to end) (sym c) ∙ ap (λ z. slice_index bytes (to - 1) ∷ slice_range bytes z end) (sym a) ∙ sym (first_of bytes (to - 1) end (omega arith) (omega arith)))
    ∙ ap (λ z. opens ∷ z) (join bytes (from + 1) (to - 1) end (omega arith) (omega arith))
    ∙ ap (λ z. z ∷ slice_range bytes (from + 1) end) (sym o)
    ∙ sym (first_of bytes from end (omega arith) (omega arith))

pub spell_bytes : (bytes : List ℕ) (room at end : ℕ) (f : Forest) → Items bytes room at end f → spelt_bytes (spell bytes at end f) ≡ slice_range bytes at end
spell_bytes bytes room at end Nil i = refl
spell_bytes bytes room at end (Word from to rest) i =
    let o : to ≤ end = items_order bytes room to end rest i.2 in
    ap (λ z. slice_range bytes at from ++ (slice_range bytes from to ++ z)) (spell_bytes bytes room to end rest i.2)
    ∙ ap (λ z. slice_range bytes at from ++ z) (join bytes from to end (omega (arith, i.1.order)) o) ∙ join bytes at from end i.0.order (omega (arith, i.1.order, o))
spell_bytes bytes room at end (Text from to rest) i =
    let o : to ≤ end = items_order bytes room to end rest i.2 in
    ap (λ z. slice_range bytes at from ++ 34 ∷ (slice_range bytes (from + 1) (to - 1) ++ 34 ∷ z)) (spell_bytes bytes room to end rest i.2)
    ∙ ap (λ z. slice_range bytes at from ++ z) (between_two bytes from to end 34 34 i.1.order o (end_within bytes room to end rest i.2) i.1.opening i.1.closing)
    ∙ join bytes at from end i.0.order (omega (arith, i.1.order, o))
spell_bytes bytes room at end (Group from to inner rest) i =
    let o : to ≤ end = items_order bytes room to end rest i.3 in
    ap (λ z. slice_range bytes at from ++ 40 ∷ (spelt_bytes (spell bytes (from + 1) (to - 1) inner) ++ 41 ∷ z)) (spell_bytes bytes room to end rest i.3)
    ∙ ap (λ z. slice_range bytes at from ++ 40 ∷ (z ++ 41 ∷ slice_range bytes to end)) (spell_bytes bytes (room - 1) (from + 1) (to - 1) inner i.2)
    ∙ ap (λ z. slice_range bytes at from ++ z) (between_two bytes from to end 40 41 i.1.order o (end_within bytes room to end rest i.3) i.1.opening i.1.closing)
    ∙ join bytes at from end i.0.order (omega (arith, i.1.order, o))

pub width_is : (bytes : List ℕ) (room at end : ℕ) (f : Forest) → Items bytes room at end f → at + width (spell bytes at end f) ≡ end
width_is bytes room at end f i =
    omega (
      arith,
      Rattle.text_shapes.proofs.Spellings.length-bytes (spell bytes at end f),
      ap length (spell_bytes bytes room at end f i),
      length-piece bytes at end (items_order bytes room at end f i) (end_within bytes room at end f i),
      items_order bytes room at end f i,
    )

word_by : {a b c d : ℕ} {f g : Forest} → a ≡ b → c ≡ d → f ≡ g → Word a c f ≡ Word b d g
word_by e h k = rw (e, h, k) refl

text_by : {a b c d : ℕ} {f g : Forest} → a ≡ b → c ≡ d → f ≡ g → Text a c f ≡ Text b d g
text_by e h k = rw (e, h, k) refl

group_by : {a b c d : ℕ} {f g x y : Forest} → a ≡ b → c ≡ d → x ≡ y → f ≡ g → Group a c x f ≡ Group b d y g
group_by e h k l = rw (e, h, k, l) refl

pub spell_placed : (bytes : List ℕ) (room at end : ℕ) (f : Forest) → Items bytes room at end f → placed at (spell bytes at end f) ≡ f
spell_placed bytes room at end Nil i = refl
spell_placed bytes room at end (Word from to rest) i =
    let a : at + length (slice_range bytes at from) ≡ from = omega (arith, length-piece bytes at from i.0.order i.0.within, i.0.order) in
    let b : at + length (slice_range bytes at from) + length (slice_range bytes from to) ≡ to = omega (arith, a, length-piece bytes from to (omega (arith, i.1.order)) i.1.within, i.1.order) in
    word_by a b (ap (λ m. placed m (spell bytes to end rest)) b ∙ spell_placed bytes room to end rest i.2)
spell_placed bytes room at end (Text from to rest) i =
    let a : at + length (slice_range bytes at from) ≡ from = omega (arith, length-piece bytes at from i.0.order i.0.within, i.0.order) in
    let b : at + length (slice_range bytes at from) + (1 + (length (slice_range bytes (from + 1) (to - 1)) + 1)) ≡ to =
    omega (arith, a, length-piece bytes (from + 1) (to - 1) (omega (arith, i.1.order)) (omega (arith, i.1.within)), i.1.order) in
    text_by a b (ap (λ m. placed m (spell bytes to end rest)) b ∙ spell_placed bytes room to end rest i.2)
spell_placed bytes room at end (Group from to inner rest) i =
    let a : at + length (slice_range bytes at from) ≡ from = omega (arith, length-piece bytes at from i.0.order i.0.within, i.0.order) in
    let c : at + length (slice_range bytes at from) + 1 ≡ from + 1 = omega (arith, a) in
    let b : at + length (slice_range bytes at from) + 1 + width (spell bytes (from + 1) (to - 1) inner) + 1 ≡ to =
    omega (arith, a, width_is bytes (room - 1) (from + 1) (to - 1) inner i.2, i.1.order) in
    group_by a b (ap (λ m. placed m (spell bytes (from + 1) (to - 1) inner)) c ∙ spell_placed bytes (room - 1) (from + 1) (to - 1) inner i.2)
    (ap (λ m. placed m (spell bytes to end rest)) b ∙ spell_placed bytes room to end rest i.3)

-- what comes behind a word is no word without white space before it
apart_there : (bytes : List ℕ) (room at end : ℕ) (f : Forest) → Items bytes room at end f → (at < length bytes → is_word (slice_index bytes at) ≡ false) → is_apart (spell bytes at end f) ≡ true
apart_there bytes room at end Nil i stop = refl
apart_there bytes room at end (Text from to rest) i stop = refl
apart_there bytes room at end (Group from to inner rest) i stop = refl
apart_there bytes room at end (Word from to rest) i stop = by_white (slice_range bytes at from) refl
  where
    by_white : (w : List ℕ) → slice_range bytes at from ≡ w → is_apart (Named w (slice_range bytes from to) (spell bytes to end rest)) ≡ true
    by_white (c ∷ w) e = refl
    by_white [] e =
        let same : at ≡ from = omega (arith, ap length e, length-piece bytes at from i.0.order i.0.within, i.0.order) in
        absurd (false≢true (sym (stop (omega (arith, i.1.order, i.1.within, same))) ∙ ap (λ m. is_word (slice_index bytes m)) same ∙ i.1.each from (omega arith) i.1.order))

white_there : (bytes : List ℕ) (at from : ℕ) → IsWhite bytes at from → list_all is_space (slice_range bytes at from) ≡ true
white_there bytes at from w = all_between is_space bytes (from - at) at from (omega (arith, w.order)) w.within w.each

pub spell_good : (bytes : List ℕ) (room at end : ℕ) (f : Forest) → Items bytes room at end f → IsTextSpelling room (spell bytes at end f)
spell_good bytes room at end Nil i = white_there bytes at end i
spell_good bytes room at end (Word from to rest) i = (
  white_there bytes at from i.0,
  omega (arith, length-piece bytes from to (omega (arith, i.1.order)) i.1.within, i.1.order),
  all_between is_word bytes (to - from) from to (omega (arith, i.1.order)) i.1.within i.1.each,
  apart_there bytes room to end rest i.2 i.1.longest,
  spell_good bytes room to end rest i.2,
)
spell_good bytes room at end (Text from to rest) i = (white_there bytes at from i.0, string_inside bytes from to i.1, spell_good bytes room to end rest i.2)
spell_good bytes room at end (Group from to inner rest) i =
    (white_there bytes at from i.0, i.1.deep, spell_good bytes (room - 1) (from + 1) (to - 1) inner i.2, spell_good bytes room to end rest i.3)
