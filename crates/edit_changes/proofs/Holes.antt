-- A spelling with a place in it where something else may stand.
use Rattle.std.proofs.Common.{◌≡◌, ◌∙◌, refl, ap, sym, ℕ, suc, ◌+◌, ◌-◌, ◌<◌, true, List, [], ◌∷◌, ◌++◌, length, arith, append-nil, append_assoc, length-append}
use Rattle.std.specs.Prelude.{filter}
use Rattle.std.specs.List.{list_all}
use Rattle.sexpr_text.specs.Grammar.{is_space, is_word}
use Rattle.text_shapes.specs.Shapes.{Shape}
use Rattle.text_shapes.specs.Seen.{ItemSeen, parts}
use Rattle.text_shapes.specs.Spellings.{Spelling, spelt_bytes, contents, is_apart, IsTextSpelling}
use Rattle.text_shapes.specs.Spellings.Spelling.{Ends, Named, Strung, Nested}
use Rattle.text_shapes.proofs.Layouts.{all_both}
use Rattle.text_shapes.proofs.Seen.{is_group}
use Rattle.sexpr_text.specs.declared.NodeKind.TheVariants as kinds

-- What stands before the place, and the lists round it.
pub data Hole : Type 0 where
  Here : Hole
  PastName : (white content : List ℕ) (rest : Hole) → Hole
  PastString : (white inside : List ℕ) (rest : Hole) → Hole
  PastList : (white : List ℕ) (inner : Spelling) (rest : Hole) → Hole
  Into : (white : List ℕ) (inner : Hole) (rest : Spelling) → Hole

-- items at the place
abbrev pub plug : Hole → Spelling → Spelling
plug Here s = s
plug (PastName w t h) s = Named w t (plug h s)
plug (PastString w t h) s = Strung w t (plug h s)
plug (PastList w inner h) s = Nested w inner (plug h s)
plug (Into w h rest) s = Nested w (plug h s) rest

-- a place inside a place
abbrev pub under : Hole → Hole → Hole
under Here k = k
under (PastName w t h) k = PastName w t (under h k)
under (PastString w t h) k = PastString w t (under h k)
under (PastList w inner h) k = PastList w inner (under h k)
under (Into w h rest) k = Into w (under h k) rest

pub plug_under : (h k : Hole) (s : Spelling) → plug (under h k) s ≡ plug h (plug k s)
plug_under Here k s = refl
plug_under (PastName w t h) k s = ap (Named w t) (plug_under h k s)
plug_under (PastString w t h) k s = ap (Strung w t) (plug_under h k s)
plug_under (PastList w inner h) k s = ap (Nested w inner) (plug_under h k s)
plug_under (Into w h rest) k s = ap (λ x. Nested w x rest) (plug_under h k s)

-- the bytes before and behind it
abbrev pub front : Hole → List ℕ
front Here = []
front (PastName w t h) = w ++ (t ++ front h)
front (PastString w t h) = w ++ 34 ∷ (t ++ 34 ∷ front h)
front (PastList w inner h) = w ++ 40 ∷ (spelt_bytes inner ++ 41 ∷ front h)
front (Into w h rest) = w ++ 40 ∷ front h

abbrev pub back : Hole → List ℕ
back Here = []
back (PastName w t h) = back h
back (PastString w t h) = back h
back (PastList w inner h) = back h
back (Into w h rest) = back h ++ 41 ∷ spelt_bytes rest

pub plug_bytes : (h : Hole) (s : Spelling) → spelt_bytes (plug h s) ≡ front h ++ (spelt_bytes s ++ back h)
plug_bytes Here s = sym (append-nil (spelt_bytes s))
plug_bytes (PastName w t h) s =
    ap (λ z. w ++ (t ++ z)) (plug_bytes h s)
    ∙ sym (append_assoc w (t ++ front h) (spelt_bytes s ++ back h) ∙ ap (λ z. w ++ z) (append_assoc t (front h) (spelt_bytes s ++ back h)))
plug_bytes (PastString w t h) s =
    ap (λ z. w ++ 34 ∷ (t ++ 34 ∷ z)) (plug_bytes h s)
    ∙ sym (append_assoc w (34 ∷ (t ++ 34 ∷ front h)) (spelt_bytes s ++ back h) ∙ ap (λ z. w ++ 34 ∷ z) (append_assoc t (34 ∷ front h) (spelt_bytes s ++ back h)))
plug_bytes (PastList w inner h) s =
    ap (λ z. w ++ 40 ∷ (spelt_bytes inner ++ 41 ∷ z)) (plug_bytes h s)
    ∙ sym (append_assoc w (40 ∷ (spelt_bytes inner ++ 41 ∷ front h)) (spelt_bytes s ++ back h)
    ∙ ap (λ z. w ++ 40 ∷ z) (append_assoc (spelt_bytes inner) (41 ∷ front h) (spelt_bytes s ++ back h)))
plug_bytes (Into w h rest) s =
    ap (λ z. w ++ 40 ∷ (z ++ 41 ∷ spelt_bytes rest)) (plug_bytes h s)
    ∙ ap (λ z. w ++ 40 ∷ z)
    (append_assoc (front h) (spelt_bytes s ++ back h) (41 ∷ spelt_bytes rest) ∙ ap (λ z. front h ++ z) (append_assoc (spelt_bytes s) (back h) (41 ∷ spelt_bytes rest)))
    ∙ sym (append_assoc w (40 ∷ front h) (spelt_bytes s ++ (back h ++ 41 ∷ spelt_bytes rest)))

-- how many lists deep it is
abbrev pub deep : Hole → ℕ
deep Here = 0
deep (PastName w t h) = deep h
deep (PastString w t h) = deep h
deep (PastList w inner h) = deep h
deep (Into w h rest) = suc (deep h)

apart_plug : (h : Hole) (s t : Spelling) → is_apart t ≡ true → is_apart (plug h s) ≡ true → is_apart (plug h t) ≡ true
apart_plug Here s t a e = a
apart_plug (PastName [] u h) s t a e = e
apart_plug (PastName (c ∷ w) u h) s t a e = refl
apart_plug (PastString w u h) s t a e = refl
apart_plug (PastList w inner h) s t a e = refl
apart_plug (Into w h rest) s t a e = refl

-- what is no word without white space before it can stand there
pub good_plug : (h : Hole) (s t : Spelling) (room : ℕ) → is_apart t ≡ true → IsTextSpelling room (plug h s)
    → ((m : ℕ) → m + deep h ≡ room → IsTextSpelling m s → IsTextSpelling m t) → IsTextSpelling room (plug h t)
good_plug Here s t room a g f = f room (omega arith) g
good_plug (PastName w u h) s t room a g f = (g.0, g.1, g.2, apart_plug h s t a g.3, good_plug h s t room a g.4 f)
good_plug (PastString w u h) s t room a g f = (g.0, g.1, good_plug h s t room a g.2 f)
good_plug (PastList w inner h) s t room a g f = (g.0, g.1, g.2, good_plug h s t room a g.3 f)
good_plug (Into w h rest) s t room a g f =
    let some = g.1 in
    (g.0, g.1, good_plug h s t (room - 1) a g.2 (λ m e k. f m (omega (arith, e, some)) k), g.3)

-- what stands at the place is good
pub good_there : (h : Hole) (s : Spelling) (room : ℕ) → IsTextSpelling room (plug h s) → (m : ℕ) × (m + deep h ≡ room) × IsTextSpelling m s
good_there Here s room g = (room, omega arith, g)
good_there (PastName w u h) s room g = good_there h s room g.4
good_there (PastString w u h) s room g = good_there h s room g.2
good_there (PastList w inner h) s room g = good_there h s room g.3
good_there (Into w h rest) s room g =
    let some = g.1 in
    let k = good_there h s (room - 1) g.2 in
    let e = k.1 in
    (k.0, omega (arith, e, some), k.2)

-- ---- lists

-- the place is in the list itself
abbrev pub IsFlat : Hole → Type 0
IsFlat Here = Unit {0}
IsFlat (PastName w t h) = IsFlat h
IsFlat (PastString w t h) = IsFlat h
IsFlat (PastList w inner h) = IsFlat h
IsFlat (Into w h rest) = ⊥

pub back_flat : (h : Hole) → IsFlat h → back h ≡ []
back_flat Here f = refl
back_flat (PastName w t h) f = back_flat h f
back_flat (PastString w t h) f = back_flat h f
back_flat (PastList w inner h) f = back_flat h f
back_flat (Into w h rest) f = absurd f

pub deep_flat : (h : Hole) → IsFlat h → deep h ≡ 0
deep_flat Here f = refl
deep_flat (PastName w t h) f = deep_flat h f
deep_flat (PastString w t h) f = deep_flat h f
deep_flat (PastList w inner h) f = deep_flat h f
deep_flat (Into w h rest) f = absurd f

-- what is seen of a list with these contents
abbrev pub list_seen : Shape → ItemSeen
list_seen inner = record { kind = kinds.List; text = []; inner = inner }

-- the lists before it
abbrev pub lists_before : Hole → List ItemSeen
lists_before Here = []
lists_before (PastName w t h) = lists_before h
lists_before (PastString w t h) = lists_before h
lists_before (PastList w inner h) = list_seen (contents inner) ∷ lists_before h
lists_before (Into w h rest) = []

-- the lists of a spelling
abbrev pub lists_in : Spelling → List ItemSeen
lists_in s = filter is_group (parts (contents s))

pub lists_plug : (h : Hole) (s : Spelling) → IsFlat h → lists_in (plug h s) ≡ lists_before h ++ lists_in s
lists_plug Here s f = refl
lists_plug (PastName w t h) s f = lists_plug h s f
lists_plug (PastString w t h) s f = lists_plug h s f
lists_plug (PastList w inner h) s f = ap (λ z. list_seen (contents inner) ∷ z) (lists_plug h s f)
lists_plug (Into w h rest) s f = absurd f

-- the place behind the last item
abbrev pub last_hole : Spelling → Hole
last_hole (Ends w) = Here
last_hole (Named w t rest) = PastName w t (last_hole rest)
last_hole (Strung w t rest) = PastString w t (last_hole rest)
last_hole (Nested w inner rest) = PastList w inner (last_hole rest)

abbrev pub last_white : Spelling → List ℕ
last_white (Ends w) = w
last_white (Named w t rest) = last_white rest
last_white (Strung w t rest) = last_white rest
last_white (Nested w inner rest) = last_white rest

pub last_is : (s : Spelling) → plug (last_hole s) (Ends (last_white s)) ≡ s
last_is (Ends w) = refl
last_is (Named w t rest) = ap (Named w t) (last_is rest)
last_is (Strung w t rest) = ap (Strung w t) (last_is rest)
last_is (Nested w inner rest) = ap (Nested w inner) (last_is rest)

pub last_flat : (s : Spelling) → IsFlat (last_hole s)
last_flat (Ends w) = tt
last_flat (Named w t rest) = last_flat rest
last_flat (Strung w t rest) = last_flat rest
last_flat (Nested w inner rest) = last_flat rest

-- ---- words that run together

-- white space in front
abbrev pub behind_white : List ℕ → Spelling → Spelling
behind_white v (Ends w) = Ends (v ++ w)
behind_white v (Named w t rest) = Named (v ++ w) t rest
behind_white v (Strung w t rest) = Strung (v ++ w) t rest
behind_white v (Nested w inner rest) = Nested (v ++ w) inner rest

pub white_bytes : (v : List ℕ) (s : Spelling) → spelt_bytes (behind_white v s) ≡ v ++ spelt_bytes s
white_bytes v (Ends w) = refl
white_bytes v (Named w t rest) = append_assoc v w (t ++ spelt_bytes rest)
white_bytes v (Strung w t rest) = append_assoc v w (34 ∷ (t ++ 34 ∷ spelt_bytes rest))
white_bytes v (Nested w inner rest) = append_assoc v w (40 ∷ (spelt_bytes inner ++ 41 ∷ spelt_bytes rest))

pub white_good : (v : List ℕ) (s : Spelling) (room : ℕ) → list_all is_space v ≡ true → IsTextSpelling room s → IsTextSpelling room (behind_white v s)
white_good v (Ends w) room e g = all_both is_space v w e g
white_good v (Named w t rest) room e g = (all_both is_space v w e g.0, g.1, g.2, g.3, g.4)
white_good v (Strung w t rest) room e g = (all_both is_space v w e g.0, g.1, g.2)
white_good v (Nested w inner rest) room e g = (all_both is_space v w e g.0, g.1, g.2, g.3)

pub white_lists : (v : List ℕ) (s : Spelling) → lists_in (behind_white v s) ≡ lists_in s
white_lists v (Ends w) = refl
white_lists v (Named w t rest) = refl
white_lists v (Strung w t rest) = refl
white_lists v (Nested w inner rest) = refl

-- a word before the items: with one that follows directly it is one word
abbrev pub word_before : List ℕ → List ℕ → Spelling → Spelling
word_before w t (Named [] u rest) = Named w (t ++ u) rest
word_before w t (Named (c ∷ v) u rest) = Named w t (Named (c ∷ v) u rest)
word_before w t (Ends v) = Named w t (Ends v)
word_before w t (Strung v u rest) = Named w t (Strung v u rest)
word_before w t (Nested v inner rest) = Named w t (Nested v inner rest)

word_bytes : (w t : List ℕ) (s : Spelling) → spelt_bytes (word_before w t s) ≡ w ++ (t ++ spelt_bytes s)
word_bytes w t (Named [] u rest) = ap (λ z. w ++ z) (append_assoc t u (spelt_bytes rest))
word_bytes w t (Named (c ∷ v) u rest) = refl
word_bytes w t (Ends v) = refl
word_bytes w t (Strung v u rest) = refl
word_bytes w t (Nested v inner rest) = refl

word_good : (w t : List ℕ) (s : Spelling) (room : ℕ) → list_all is_space w ≡ true → 0 < length t → list_all is_word t ≡ true → IsTextSpelling room s → IsTextSpelling room (word_before w t s)
word_good w t (Named [] u rest) room e l a g = (e, omega (arith, l, length-append t u), all_both is_word t u a g.2, g.3, g.4)
word_good w t (Named (c ∷ v) u rest) room e l a g = (e, l, a, refl, g)
word_good w t (Ends v) room e l a g = (e, l, a, refl, g)
word_good w t (Strung v u rest) room e l a g = (e, l, a, refl, g)
word_good w t (Nested v inner rest) room e l a g = (e, l, a, refl, g)

word_lists : (w t : List ℕ) (s : Spelling) → lists_in (word_before w t s) ≡ lists_in s
word_lists w t (Named [] u rest) = refl
word_lists w t (Named (c ∷ v) u rest) = refl
word_lists w t (Ends v) = refl
word_lists w t (Strung v u rest) = refl
word_lists w t (Nested v inner rest) = refl

-- items at the place, of which the first word may go on with the one before it
abbrev pub mend : Hole → Spelling → Spelling
mend Here s = s
mend (PastName w t h) s = word_before w t (mend h s)
mend (PastString w t h) s = Strung w t (mend h s)
mend (PastList w inner h) s = Nested w inner (mend h s)
mend (Into w h rest) s = Nested w (mend h s) rest

same_bytes : (h : Hole) (s : Spelling) → spelt_bytes (mend h s) ≡ spelt_bytes (plug h s)
same_bytes Here s = refl
same_bytes (PastName w t h) s = word_bytes w t (mend h s) ∙ ap (λ z. w ++ (t ++ z)) (same_bytes h s)
same_bytes (PastString w t h) s = ap (λ z. w ++ 34 ∷ (t ++ 34 ∷ z)) (same_bytes h s)
same_bytes (PastList w inner h) s = ap (λ z. w ++ 40 ∷ (spelt_bytes inner ++ 41 ∷ z)) (same_bytes h s)
same_bytes (Into w h rest) s = ap (λ z. w ++ 40 ∷ (z ++ 41 ∷ spelt_bytes rest)) (same_bytes h s)

pub mend_bytes : (h : Hole) (s : Spelling) → spelt_bytes (mend h s) ≡ front h ++ (spelt_bytes s ++ back h)
mend_bytes h s = same_bytes h s ∙ plug_bytes h s

pub mend_good : (h : Hole) (s t : Spelling) (room : ℕ) → IsTextSpelling room (plug h s)
    → ((m : ℕ) → m + deep h ≡ room → IsTextSpelling m s → IsTextSpelling m t) → IsTextSpelling room (mend h t)
mend_good Here s t room g f = f room (omega arith) g
mend_good (PastName w u h) s t room g f = word_good w u (mend h t) room g.0 g.1 g.2 (mend_good h s t room g.4 f)
mend_good (PastString w u h) s t room g f = (g.0, g.1, mend_good h s t room g.2 f)
mend_good (PastList w inner h) s t room g f = (g.0, g.1, g.2, mend_good h s t room g.3 f)
mend_good (Into w h rest) s t room g f =
    let some = g.1 in
    (g.0, g.1, mend_good h s t (room - 1) g.2 (λ m e k. f m (omega (arith, e, some)) k), g.3)

pub mend_lists : (h : Hole) (s : Spelling) → IsFlat h → lists_in (mend h s) ≡ lists_before h ++ lists_in s
mend_lists Here s f = refl
mend_lists (PastName w t h) s f = word_lists w t (mend h s) ∙ mend_lists h s f
mend_lists (PastString w t h) s f = mend_lists h s f
mend_lists (PastList w inner h) s f = ap (λ z. list_seen (contents inner) ∷ z) (mend_lists h s f)
mend_lists (Into w h rest) s f = absurd f

-- ---- a place inside a place

pub front_under : (h k : Hole) → front (under h k) ≡ front h ++ front k
front_under Here k = refl
front_under (PastName w t h) k =
    ap (λ z. w ++ (t ++ z)) (front_under h k) ∙ sym (append_assoc w (t ++ front h) (front k) ∙ ap (λ z. w ++ z) (append_assoc t (front h) (front k)))
front_under (PastString w t h) k =
    ap (λ z. w ++ 34 ∷ (t ++ 34 ∷ z)) (front_under h k)
    ∙ sym (append_assoc w (34 ∷ (t ++ 34 ∷ front h)) (front k) ∙ ap (λ z. w ++ 34 ∷ z) (append_assoc t (34 ∷ front h) (front k)))
front_under (PastList w inner h) k =
    ap (λ z. w ++ 40 ∷ (spelt_bytes inner ++ 41 ∷ z)) (front_under h k)
    ∙ sym (append_assoc w (40 ∷ (spelt_bytes inner ++ 41 ∷ front h)) (front k) ∙ ap (λ z. w ++ 40 ∷ z) (append_assoc (spelt_bytes inner) (41 ∷ front h) (front k)))
front_under (Into w h rest) k = ap (λ z. w ++ 40 ∷ z) (front_under h k) ∙ sym (append_assoc w (40 ∷ front h) (front k))

pub deep_under : (h k : Hole) → deep (under h k) ≡ deep h + deep k
deep_under Here k = omega arith
deep_under (PastName w t h) k = deep_under h k
deep_under (PastString w t h) k = deep_under h k
deep_under (PastList w inner h) k = deep_under h k
deep_under (Into w h rest) k = omega (arith, deep_under h k)
