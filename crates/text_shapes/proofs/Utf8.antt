-- A spelling is UTF-8 exactly where its words and strings are; and so are the contents of strings.
use Rattle.std.proofs.Common.{◌≡◌, ◌∙◌, refl, ap, sym, subst, ℕ, zero, suc, ◌+◌, ◌-◌, ◌<◌, ◌≤◌, ◌⊎◌, inl, inr, Bool, true, false, ◌==◌, cond, nat_lt, List, [], ◌∷◌, ◌++◌, length, get_or, arith, length-append, append_assoc, append-nil}
use Rattle.std.specs.Prelude.{◌/◌, ◌%◌}
use Rattle.std.specs.List.{list_all}
use Rattle.std.specs.Str.{IsUtf8, IsCharBoundary, all_scalars, encode_utf8_all}
use Rattle.std.specs.Char.{encode_utf8}
use Rattle.std.proofs.lemmas.Bool.{and_parts, true≢false}
use Rattle.std.proofs.lemmas.Bool.Decides.{nat_tests}
use Rattle.std.proofs.Math.Seq.{get_or-append_seam, take-append_seam, drop-append_seam}
use Rattle.std.proofs.lemmas.Str.{IsUtf8-append, IsUtf8-encode, IsUtf8-nil, IsUtf8-take, IsUtf8-drop, IsUtf8-from_ascii, IsCharBoundary-before_ascii, IsCharBoundary-after_ascii, encode_ascii}
use Rattle.std.proofs.lemmas.Str.Ascii.{IsAscii-from_all}
use Rattle.sexpr_text.specs.Grammar.{is_space, is_word}
use Rattle.sexpr_text.specs.Items.{meaning, unescaped}
use Rattle.sexpr_text.proofs.Finish.{Highs}
use Rattle.sexpr_text.proofs.Numbers.{below_or_past}
use Rattle.sexpr_text.proofs.Utf8Ends.{scalar_first}
use Rattle.text_shapes.specs.Shapes.{Shape}
use Rattle.text_shapes.specs.Shapes.Shape.{Over, Bare, Quoted, Inside}
use Rattle.text_shapes.specs.Layouts.{EndsWord}
use Rattle.text_shapes.specs.Spellings.{Spelling, spelt_bytes, contents, IsTextSpelling}
use Rattle.text_shapes.specs.Spellings.Spelling.{Ends, Named, Strung, Nested}
use Rattle.text_shapes.proofs.Spellings.{stops}

-- ---- where a text may be cut

pub ascii_one : (c : ℕ) → c < 128 → IsUtf8 (c ∷ [])
ascii_one c l = IsUtf8-from_ascii (c ∷ []) (IsAscii-from_all (c ∷ []) (λ k d m. by_place k d m))
  where
    by_place : (k d : ℕ) → k < length (c ∷ []) → get_or (c ∷ []) k d < 128
    by_place zero d m = l
    by_place (suc k) d m = absurd (omega (arith, m))

pub ascii_before : (c : ℕ) (y : List ℕ) → c < 128 → IsUtf8 y → IsUtf8 (c ∷ y)
ascii_before c y l u = IsUtf8-append (c ∷ []) y (ascii_one c l) u

pub ascii_behind : (c : ℕ) (y : List ℕ) → c < 128 → IsUtf8 (c ∷ y) → IsUtf8 y
ascii_behind c y l u = IsUtf8-drop (c ∷ y) (0 + 1) u (IsCharBoundary-after_ascii (c ∷ y) 0 u (omega arith) l)

pub split_front : (x y : List ℕ) (c : ℕ) → c < 128 → IsUtf8 (x ++ c ∷ y) → IsUtf8 x × IsUtf8 y
split_front x y c l u =
    let seam : IsCharBoundary (x ++ c ∷ y) (length x) =
    IsCharBoundary-before_ascii (x ++ c ∷ y) (length x) (omega (arith, length-append x (c ∷ y))) (subst (λ n. n < 128) (sym (get_or-append_seam x c y 0)) l) in (
      subst IsUtf8 (take-append_seam x (c ∷ y)) (IsUtf8-take (x ++ c ∷ y) (length x) u seam),
      ascii_behind c y l (subst IsUtf8 (drop-append_seam x (c ∷ y)) (IsUtf8-drop (x ++ c ∷ y) (length x) u seam)),
    )

space_small : (c : ℕ) → is_space c ≡ true → c < 128
space_small c h = grind (arith, nat_tests)

stop_small : (c : ℕ) → is_word c ≡ false → c < 128
stop_small c h = grind (arith, nat_tests)

white_behind : (w y : List ℕ) → list_all is_space w ≡ true → IsUtf8 (w ++ y) → IsUtf8 y
white_behind [] y h u = u
white_behind (c ∷ w) y h u =
    let a = and_parts (is_space c) (list_all is_space w) h in
    white_behind w y a.1 (ascii_behind c (w ++ y) (space_small c a.0) u)

pub white_before : (w y : List ℕ) → list_all is_space w ≡ true → IsUtf8 y → IsUtf8 (w ++ y)
white_before [] y h u = u
white_before (c ∷ w) y h u =
    let a = and_parts (is_space c) (list_all is_space w) h in
    ascii_before c (w ++ y) (space_small c a.0) (white_before w y a.1 u)

word_front : (t z : List ℕ) → EndsWord z → IsUtf8 (t ++ z) → IsUtf8 t × IsUtf8 z
word_front t [] s u = (subst IsUtf8 (append-nil t) u, IsUtf8-nil)
word_front t (c ∷ z) s u = let p = split_front t z c (stop_small c s) u in (p.0, ascii_before c z (stop_small c s) p.1)

-- ---- spellings

-- words and strings are UTF-8
abbrev pub AreUtf8 : Spelling → Type 0
AreUtf8 (Ends w) = Unit {0}
AreUtf8 (Named w t rest) = IsUtf8 t × AreUtf8 rest
AreUtf8 (Strung w t rest) = IsUtf8 t × AreUtf8 rest
AreUtf8 (Nested w inner rest) = AreUtf8 inner × AreUtf8 rest

pub utf8_parts : (s : Spelling) (room : ℕ) (tail : List ℕ) → IsTextSpelling room s → EndsWord tail → IsUtf8 (spelt_bytes s ++ tail) → AreUtf8 s × IsUtf8 tail
utf8_parts (Ends w) room tail g s u = (tt, white_behind w tail g u)
utf8_parts (Named w t rest) room tail g s u =
    let a : IsUtf8 (t ++ (spelt_bytes rest ++ tail)) =
    white_behind w (t ++ (spelt_bytes rest ++ tail)) g.0 (subst IsUtf8 (append_assoc w (t ++ spelt_bytes rest) tail ∙ ap (λ z. w ++ z) (append_assoc t (spelt_bytes rest) tail)) u) in
    let b = word_front t (spelt_bytes rest ++ tail) (stops rest room tail g.4 g.3 s) a in
    let c = utf8_parts rest room tail g.4 s b.1 in
    ((b.0, c.0), c.1)
utf8_parts (Strung w t rest) room tail g s u =
    let a : IsUtf8 (34 ∷ (t ++ 34 ∷ (spelt_bytes rest ++ tail))) =
    white_behind w (34 ∷ (t ++ 34 ∷ (spelt_bytes rest ++ tail))) g.0
    (subst IsUtf8 (append_assoc w (34 ∷ (t ++ 34 ∷ spelt_bytes rest)) tail ∙ ap (λ z. w ++ 34 ∷ z) (append_assoc t (34 ∷ spelt_bytes rest) tail)) u) in
    let b = split_front t (spelt_bytes rest ++ tail) 34 (omega arith) (ascii_behind 34 (t ++ 34 ∷ (spelt_bytes rest ++ tail)) (omega arith) a) in
    let c = utf8_parts rest room tail g.2 s b.1 in
    ((b.0, c.0), c.1)
utf8_parts (Nested w inner rest) room tail g s u =
    let a : IsUtf8 (40 ∷ (spelt_bytes inner ++ 41 ∷ (spelt_bytes rest ++ tail))) =
    white_behind w (40 ∷ (spelt_bytes inner ++ 41 ∷ (spelt_bytes rest ++ tail))) g.0
    (subst IsUtf8 (append_assoc w (40 ∷ (spelt_bytes inner ++ 41 ∷ spelt_bytes rest)) tail ∙ ap (λ z. w ++ 40 ∷ z) (append_assoc (spelt_bytes inner) (41 ∷ spelt_bytes rest) tail)) u) in
    let b = utf8_parts inner (room - 1) (41 ∷ (spelt_bytes rest ++ tail)) g.2 refl (ascii_behind 40 (spelt_bytes inner ++ 41 ∷ (spelt_bytes rest ++ tail)) (omega arith) a) in
    let c = utf8_parts rest room tail g.3 s (ascii_behind 41 (spelt_bytes rest ++ tail) (omega arith) b.1) in
    ((b.0, c.0), c.1)

pub utf8_whole : (s : Spelling) (room : ℕ) (tail : List ℕ) → IsTextSpelling room s → AreUtf8 s → IsUtf8 tail → IsUtf8 (spelt_bytes s ++ tail)
utf8_whole (Ends w) room tail g a u = white_before w tail g u
utf8_whole (Named w t rest) room tail g a u =
    subst IsUtf8 (sym (append_assoc w (t ++ spelt_bytes rest) tail ∙ ap (λ z. w ++ z) (append_assoc t (spelt_bytes rest) tail)))
    (white_before w (t ++ (spelt_bytes rest ++ tail)) g.0 (IsUtf8-append t (spelt_bytes rest ++ tail) a.0 (utf8_whole rest room tail g.4 a.1 u)))
utf8_whole (Strung w t rest) room tail g a u =
    subst IsUtf8 (sym (append_assoc w (34 ∷ (t ++ 34 ∷ spelt_bytes rest)) tail ∙ ap (λ z. w ++ 34 ∷ z) (append_assoc t (34 ∷ spelt_bytes rest) tail)))
    (white_before w (34 ∷ (t ++ 34 ∷ (spelt_bytes rest ++ tail))) g.0 (ascii_before 34 (t ++ 34 ∷ (spelt_bytes rest ++ tail)) (omega arith)
    (IsUtf8-append t (34 ∷ (spelt_bytes rest ++ tail)) a.0 (ascii_before 34 (spelt_bytes rest ++ tail) (omega arith) (utf8_whole rest room tail g.2 a.1 u)))))
utf8_whole (Nested w inner rest) room tail g a u =
    subst IsUtf8 (sym (append_assoc w (40 ∷ (spelt_bytes inner ++ 41 ∷ spelt_bytes rest)) tail ∙ ap (λ z. w ++ 40 ∷ z) (append_assoc (spelt_bytes inner) (41 ∷ spelt_bytes rest) tail)))
    (white_before w (40 ∷ (spelt_bytes inner ++ 41 ∷ (spelt_bytes rest ++ tail))) g.0 (ascii_before 40 (spelt_bytes inner ++ 41 ∷ (spelt_bytes rest ++ tail)) (omega arith)
    (utf8_whole inner (room - 1) (41 ∷ (spelt_bytes rest ++ tail)) g.2 a.0 (ascii_before 41 (spelt_bytes rest ++ tail) (omega arith) (utf8_whole rest room tail g.3 a.1 u)))))

-- ---- contents

pub highs_encode : (c : ℕ) → 128 ≤ c → Highs (encode_utf8 c)
unfolding encode_utf8
highs_encode c l = on (nat_lt c 128) (nat_lt c 2048) (nat_lt c 65536) (past c l)
  where
    past : (n : ℕ) → 128 ≤ n → nat_lt n 128 ≡ false
    past n m = grind (arith, nat_tests)

    on : (p q r : Bool) → p ≡ false → Highs (cond p (c ∷ []) (cond q ((192 + c / 64) ∷ (128 + c % 64) ∷ []) (cond r ((224 + c / 4096) ∷ (128 + c / 64 % 64) ∷ (128 + c % 64) ∷ []) ((240 + c / 262144) ∷ (128 + c / 4096 % 64) ∷ (128 + c / 64 % 64) ∷ (128 + c % 64) ∷ []))))
    on true q r e = absurd (true≢false e)
    on false true r e = (omega arith, (omega arith, tt))
    on false false true e = (omega arith, (omega arith, (omega arith, tt)))
    on false false false e = (omega arith, (omega arith, (omega arith, (omega arith, tt))))

no_slash : (c : ℕ) → 128 ≤ c → (c == 92) ≡ false
no_slash c l = grind (arith, nat_tests)

own_meaning : (c : ℕ) → 128 ≤ c → meaning c ≡ c
own_meaning c l = rw (other c 110 l (omega arith), other c 114 l (omega arith), other c 116 l (omega arith)) refl
  where
    other : (c n : ℕ) → 128 ≤ c → n < 128 → (c == n) ≡ false
    other c n l m = grind (arith, nat_tests)

high_kept : (xs ys : List ℕ) → Highs xs → unescaped false (xs ++ ys) ≡ xs ++ unescaped false ys
high_kept [] ys h = refl
high_kept (c ∷ xs) ys h = rw (no_slash c h.0) (ap (λ z. c ∷ z) (high_kept xs ys h.1))

small_meaning : (c : ℕ) → c < 128 → meaning c < 128
small_meaning c l = pick (c == 110) (c == 114) (c == 116)
  where
    pick : (p q r : Bool) → cond p 10 (cond q 13 (cond r 9 c)) < 128
    pick true q r = omega arith
    pick false true r = omega arith
    pick false false true = omega arith
    pick false false false = l

small_kept : (c : ℕ) (ys : List ℕ) → c < 128 → ((b : Bool) → IsUtf8 (unescaped b ys)) → (b : Bool) → IsUtf8 (unescaped b (c ∷ ys))
small_kept c ys l h true = ascii_before (meaning c) (unescaped false ys) (small_meaning c l) (h false)
small_kept c ys l h false = pick (c == 92)
  where
    pick : (s : Bool) → IsUtf8 (cond s (unescaped true ys) (c ∷ unescaped false ys))
    pick true = h true
    pick false = ascii_before c (unescaped false ys) l (h false)

char_kept : (xs ys : List ℕ) → Highs xs → IsUtf8 xs → ((b : Bool) → IsUtf8 (unescaped b ys)) → (b : Bool) → IsUtf8 (unescaped b (xs ++ ys))
char_kept xs ys h u k false = subst IsUtf8 (sym (high_kept xs ys h)) (IsUtf8-append xs (unescaped false ys) u (k false))
char_kept [] ys h u k true = k true
char_kept (c ∷ xs) ys h u k true =
    subst IsUtf8 (sym (ap (λ z. z ∷ unescaped false (xs ++ ys)) (own_meaning c h.0) ∙ ap (λ z. c ∷ z) (high_kept xs ys h.1)))
    (IsUtf8-append (c ∷ xs) (unescaped false ys) u (k false))

unescaped_chars : (cs : List ℕ) → all_scalars cs ≡ true → (b : Bool) → IsUtf8 (unescaped b (encode_utf8_all cs))
unescaped_chars [] s b = IsUtf8-nil
unescaped_chars (c ∷ cs) s b = by_size (below_or_past c 128) (unescaped_chars cs (scalar_first c cs s).1)
  where
    by_size : (c < 128) ⊎ (128 ≤ c) → ((b : Bool) → IsUtf8 (unescaped b (encode_utf8_all cs))) → IsUtf8 (unescaped b (encode_utf8 c ++ encode_utf8_all cs))
    by_size (inl l) more = subst (λ z. IsUtf8 (unescaped b (z ++ encode_utf8_all cs))) (sym (encode_ascii c l)) (small_kept c (encode_utf8_all cs) l more b)
    by_size (inr l) more = char_kept (encode_utf8 c) (encode_utf8_all cs) (highs_encode c l) (IsUtf8-encode c (scalar_first c cs s).0) more b

pub unescaped_utf8 : (t : List ℕ) → IsUtf8 t → IsUtf8 (unescaped false t)
unescaped_utf8 t u = subst (λ z. IsUtf8 (unescaped false z)) u.1.1 (unescaped_chars u.0 u.1.0 false)

-- all contents are UTF-8
abbrev pub AllUtf8 : Shape → Type 0
AllUtf8 Over = Unit {0}
AllUtf8 (Bare t rest) = IsUtf8 t × AllUtf8 rest
AllUtf8 (Quoted t rest) = IsUtf8 t × AllUtf8 rest
AllUtf8 (Inside inner rest) = AllUtf8 inner × AllUtf8 rest

pub contents_utf8 : (s : Spelling) → AreUtf8 s → AllUtf8 (contents s)
contents_utf8 (Ends w) a = tt
contents_utf8 (Named w t rest) a = (a.0, contents_utf8 rest a.1)
contents_utf8 (Strung w t rest) a = (unescaped_utf8 t a.0, contents_utf8 rest a.1)
contents_utf8 (Nested w inner rest) a = (contents_utf8 inner a.0, contents_utf8 rest a.1)
