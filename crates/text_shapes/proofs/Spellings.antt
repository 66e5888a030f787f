-- What a spelling spells, where it stands in a text.
use Rattle.std.proofs.Common.{◌≡◌, ◌∙◌, refl, ap, sym, subst, ℕ, zero, suc, ◌+◌, ◌-◌, ◌<◌, Bool, true, false, ◌&&◌, not, ◌==◌, List, [], ◌∷◌, ◌++◌, length, slice_index, slice_range, arith, length-append, append_assoc}
use Rattle.std.specs.List.{list_all}
use Rattle.std.proofs.lemmas.Bool.{and_parts, false≢true}
use Rattle.sexpr_text.specs.Grammar.{Items, IsWord, IsString, is_space, is_word, is_escaped}
use Rattle.sexpr_text.specs.Items.{unescaped}
use Rattle.text_shapes.specs.Shapes.{forest_shape}
use Rattle.text_shapes.specs.Shapes.Shape.{Bare, Quoted, Inside}
use Rattle.text_shapes.specs.Layouts.{EndsWord}
use Rattle.text_shapes.specs.Spellings.{Spelling, spelt_bytes, width, contents, placed, is_string_inside, is_apart, IsTextSpelling}
use Rattle.text_shapes.specs.Spellings.Spelling.{Ends, Named, Strung, Nested}
use Rattle.text_shapes.proofs.Layouts.{mid_byte, holds_mid, next_byte, mid_part, length_three, white_mid, stop_byte, space_no_word, white_stop}

pub length-bytes : (s : Spelling) → length (spelt_bytes s) ≡ width s
length-bytes (Ends w) = refl
length-bytes (Named w t rest) = omega (arith, length-append w (t ++ spelt_bytes rest), length-append t (spelt_bytes rest), length-bytes rest)
length-bytes (Strung w t rest) = omega (arith, length-append w (34 ∷ (t ++ 34 ∷ spelt_bytes rest)), length-append t (34 ∷ spelt_bytes rest), length-bytes rest)
length-bytes (Nested w inner rest) =
    omega (arith, length-append w (40 ∷ (spelt_bytes inner ++ 41 ∷ spelt_bytes rest)), length-append (spelt_bytes inner) (41 ∷ spelt_bytes rest), length-bytes inner, length-bytes rest)

-- ---- words and strings

word_there : (bytes front t back : List ℕ) (at to : ℕ) → bytes ≡ front ++ (t ++ back) → length front ≡ at → at + length t ≡ to → 0 < length t → list_all is_word t ≡ true → EndsWord back → IsWord bytes at to
word_there bytes front t back at to e l m some all s =
    let f : bytes ≡ (front ++ t) ++ back = e ∙ sym (append_assoc front t back) in
    record {
      order = omega (arith, some);
      within = length_three bytes front t back at to e l m;
      each = holds_mid is_word bytes front t back at to e l m all;
      longest = stop_byte bytes (front ++ t) back to f (omega (arith, length-append front t)) s;
    }

-- the state behind so many bytes, and the quotes among them
record IsStrung (bytes : List ℕ) (inside n : ℕ) (t : List ℕ) : Type 0 where
  ends : is_escaped bytes inside (n + length t) ≡ false
  first : (k : ℕ) → k < length t → slice_index t k ≡ 34 → is_escaped bytes inside (n + k) ≡ true

strung_from : (bytes : List ℕ) (inside n : ℕ) (t : List ℕ) (b : Bool) → is_escaped bytes inside n ≡ b → is_string_inside b t ≡ true
    → ((k : ℕ) → k < length t → slice_index bytes (inside + (n + k)) ≡ slice_index t k) → IsStrung bytes inside n t
strung_from bytes inside n [] b e h there =
    let z : n + 0 ≡ n = omega arith in
    record { ends = ap (is_escaped bytes inside) z ∙ e ∙ not_true b h; first = λ k l q. absurd (omega arith) }
  where
    not_true : (b : Bool) → not b ≡ true → b ≡ false
    not_true true h = absurd (false≢true h)
    not_true false h = refl
strung_from bytes inside n (c ∷ t) b e h there =
    let z : n + 0 ≡ n = omega arith in
    let byte : slice_index bytes (inside + n) ≡ c = ap (λ m. slice_index bytes (inside + m)) (sym z) ∙ there 0 (omega arith) in
    let p = parted b h in
    let step : is_escaped bytes inside (suc n) ≡ (not b && c == 92) =
    ap (λ f. not f && slice_index bytes (inside + n) == 92) e ∙ ap (λ x. not b && x == 92) byte in
    let more : IsStrung bytes inside (suc n) t =
    strung_from bytes inside (suc n) t (not b && c == 92) step p.1 (λ k l. let same : suc n + k ≡ n + suc k = omega arith in ap (λ m. slice_index bytes (inside + m)) same ∙ there (suc k) (omega (arith, l))) in
    let whole : n + suc (length t) ≡ suc n + length t = omega arith in
    record {
      ends = ap (is_escaped bytes inside) whole ∙ more.ends;
      first = λ k l q. at_place k l q p.0 more;
    }
  where
    parted : (b : Bool) → is_string_inside b (c ∷ t) ≡ true → (c ≡ 34 → b ≡ true) × (is_string_inside (not b && c == 92) t ≡ true)
    parted true h = (λ q. refl, h)
    parted false h =
        let a = and_parts (not (c == 34)) (is_string_inside (c == 92) t) h in
        (λ q. absurd (quote_there c a.0 q), a.1)
      where
        quote_there : (c : ℕ) → not (c == 34) ≡ true → c ≡ 34 → ⊥
        quote_there c h e = false≢true (ap (λ m. not (m == 34)) (sym e) ∙ h)

    at_place : (k : ℕ) → k < suc (length t) → slice_index (c ∷ t) k ≡ 34 → (c ≡ 34 → b ≡ true) → IsStrung bytes inside (suc n) t → is_escaped bytes inside (n + k) ≡ true
    at_place zero l q f more = let z : n + 0 ≡ n = omega arith in ap (is_escaped bytes inside) z ∙ e ∙ f q
    at_place (suc k) l q f more = let same : n + suc k ≡ suc n + k = omega arith in ap (is_escaped bytes inside) same ∙ more.first k (omega (arith, l)) q

string_there : (bytes front t back : List ℕ) (at to : ℕ) → bytes ≡ front ++ 34 ∷ (t ++ 34 ∷ back) → length front ≡ at → at + (1 + (length t + 1)) ≡ to → is_string_inside false t ≡ true → IsString bytes at to
string_there bytes front t back at to e l m h =
    let f : bytes ≡ (front ++ 34 ∷ []) ++ (t ++ 34 ∷ back) = e ∙ sym (append_assoc front (34 ∷ []) (t ++ 34 ∷ back)) in
    let g : bytes ≡ ((front ++ 34 ∷ []) ++ t) ++ 34 ∷ back = f ∙ sym (append_assoc (front ++ 34 ∷ []) t (34 ∷ back)) in
    let lf : length (front ++ 34 ∷ []) ≡ at + 1 = omega (arith, length-append front (34 ∷ [])) in
    let lg : length ((front ++ 34 ∷ []) ++ t) ≡ to - 1 = omega (arith, length-append (front ++ 34 ∷ []) t) in
    let n : to - 1 - (at + 1) ≡ 0 + length t = omega arith in
    let s : IsStrung bytes (at + 1) 0 t =
    strung_from bytes (at + 1) 0 t false refl h (λ k less.
    let i : at + 1 + (0 + k) - (at + 1) ≡ k = omega arith in
    mid_byte bytes (front ++ 34 ∷ []) t (34 ∷ back) (at + 1) (at + 1 + (0 + k)) f lf (omega arith) (omega (arith, less)) ∙ ap (λ j. slice_index t j) i) in
    record {
      opening = next_byte bytes front (t ++ 34 ∷ back) 34 at e l;
      order = omega arith;
      within = omega (arith, ap length g, length-append ((front ++ 34 ∷ []) ++ t) (34 ∷ back));
      closing = next_byte bytes ((front ++ 34 ∷ []) ++ t) back 34 (to - 1) g lg;
      ends = ap (is_escaped bytes (at + 1)) n ∙ s.ends;
      first = λ k less quote.
          let i : at + 1 + k - (at + 1) ≡ k = omega arith in
          let low : k < length t = omega arith in
          let z : 0 + k ≡ k = omega arith in
          let there : slice_index t k ≡ 34 =
          sym (mid_byte bytes (front ++ 34 ∷ []) t (34 ∷ back) (at + 1) (at + 1 + k) f lf (omega arith) (omega arith) ∙ ap (λ j. slice_index t j) i) ∙ quote in
          ap (is_escaped bytes (at + 1)) (sym z) ∙ s.first k low there;
    }

string_content : (bytes front t back : List ℕ) (at to : ℕ) → bytes ≡ front ++ 34 ∷ (t ++ 34 ∷ back) → length front ≡ at → at + (1 + (length t + 1)) ≡ to
    → slice_range bytes (at + 1) (to - 1) ≡ t
string_content bytes front t back at to e l m =
    let f : bytes ≡ (front ++ 34 ∷ []) ++ (t ++ 34 ∷ back) = e ∙ sym (append_assoc front (34 ∷ []) (t ++ 34 ∷ back)) in
    let lf : length (front ++ 34 ∷ []) ≡ at + 1 = omega (arith, length-append front (34 ∷ [])) in
    mid_part bytes (front ++ 34 ∷ []) t (34 ∷ back) (at + 1) (to - 1) f lf (omega arith)

-- ---- the whole

pub stops : (s : Spelling) (room : ℕ) (tail : List ℕ) → IsTextSpelling room s → is_apart s ≡ true → EndsWord tail → EndsWord (spelt_bytes s ++ tail)
stops (Ends w) room tail g a s = white_stop w tail g s
stops (Named [] t rest) room tail g a s = absurd (false≢true a)
stops (Named (c ∷ w) t rest) room tail g a s = space_no_word c (and_parts (is_space c) (list_all is_space w) g.0).0
stops (Strung w t rest) room tail g a s = subst EndsWord (sym (append_assoc w (34 ∷ (t ++ 34 ∷ spelt_bytes rest)) tail)) (white_stop w (34 ∷ ((t ++ 34 ∷ spelt_bytes rest) ++ tail)) g.0 refl)
stops (Nested w inner rest) room tail g a s =
    subst EndsWord (sym (append_assoc w (40 ∷ (spelt_bytes inner ++ 41 ∷ spelt_bytes rest)) tail)) (white_stop w (40 ∷ ((spelt_bytes inner ++ 41 ∷ spelt_bytes rest) ++ tail)) g.0 refl)

-- the places of its items are those of its bytes, with its contents
pub record Spells (bytes : List ℕ) (room at end : ℕ) (s : Spelling) : Type 0 where
  pub items : Items bytes room at end (placed at s)
  pub shaped : forest_shape bytes (placed at s) ≡ contents s

pub spells : (s : Spelling) (bytes front tail : List ℕ) (room at end : ℕ) → bytes ≡ front ++ (spelt_bytes s ++ tail) → length front ≡ at → at + width s ≡ end → IsTextSpelling room s → EndsWord tail
    → Spells bytes room at end s
spells (Ends w) bytes front tail room at end e l m g s = record { items = white_mid bytes front w tail at end e l m g; shaped = refl }
spells (Named w t rest) bytes front tail room at end e l m g s =
    let q : bytes ≡ front ++ (w ++ (t ++ (spelt_bytes rest ++ tail))) =
    e ∙ ap (λ z. front ++ z) (append_assoc w (t ++ spelt_bytes rest) tail) ∙ ap (λ z. front ++ (w ++ z)) (append_assoc t (spelt_bytes rest) tail) in
    let f : bytes ≡ (front ++ w) ++ (t ++ (spelt_bytes rest ++ tail)) = q ∙ sym (append_assoc front w (t ++ (spelt_bytes rest ++ tail))) in
    let h : bytes ≡ ((front ++ w) ++ t) ++ (spelt_bytes rest ++ tail) = f ∙ sym (append_assoc (front ++ w) t (spelt_bytes rest ++ tail)) in
    let lf : length (front ++ w) ≡ at + length w = omega (arith, length-append front w) in
    let lh : length ((front ++ w) ++ t) ≡ at + length w + length t = omega (arith, length-append (front ++ w) t) in
    let more : Spells bytes room (at + length w + length t) end rest = spells rest bytes ((front ++ w) ++ t) tail room (at + length w + length t) end h lh (omega arith) g.4 s in
    record {
      items = (
        white_mid bytes front w (t ++ (spelt_bytes rest ++ tail)) at (at + length w) q l refl g.0,
        word_there bytes (front ++ w) t (spelt_bytes rest ++ tail) (at + length w) (at + length w + length t) f lf refl g.1 g.2 (stops rest room tail g.4 g.3 s),
        more.items,
      );
      shaped = ap (λ c. Bare c (forest_shape bytes (placed (at + length w + length t) rest))) (mid_part bytes (front ++ w) t (spelt_bytes rest ++ tail) (at + length w) (at + length w + length t) f lf refl)
          ∙ ap (Bare t) more.shaped;
    }
spells (Strung w t rest) bytes front tail room at end e l m g s =
    let q : bytes ≡ front ++ (w ++ 34 ∷ (t ++ 34 ∷ (spelt_bytes rest ++ tail))) =
    e ∙ ap (λ z. front ++ z) (append_assoc w (34 ∷ (t ++ 34 ∷ spelt_bytes rest)) tail) ∙ ap (λ z. front ++ (w ++ 34 ∷ z)) (append_assoc t (34 ∷ spelt_bytes rest) tail) in
    let f : bytes ≡ (front ++ w) ++ 34 ∷ (t ++ 34 ∷ (spelt_bytes rest ++ tail)) = q ∙ sym (append_assoc front w (34 ∷ (t ++ 34 ∷ (spelt_bytes rest ++ tail)))) in
    let h : bytes ≡ ((front ++ w) ++ 34 ∷ t) ++ 34 ∷ (spelt_bytes rest ++ tail) = f ∙ sym (append_assoc (front ++ w) (34 ∷ t) (34 ∷ (spelt_bytes rest ++ tail))) in
    let i : bytes ≡ (((front ++ w) ++ 34 ∷ t) ++ 34 ∷ []) ++ (spelt_bytes rest ++ tail) = h ∙ sym (append_assoc ((front ++ w) ++ 34 ∷ t) (34 ∷ []) (spelt_bytes rest ++ tail)) in
    let lf : length (front ++ w) ≡ at + length w = omega (arith, length-append front w) in
    let li : length (((front ++ w) ++ 34 ∷ t) ++ 34 ∷ []) ≡ at + length w + (1 + (length t + 1)) =
    omega (arith, lf, length-append (front ++ w) (34 ∷ t), length-append ((front ++ w) ++ 34 ∷ t) (34 ∷ [])) in
    let more : Spells bytes room (at + length w + (1 + (length t + 1))) end rest =
    spells rest bytes (((front ++ w) ++ 34 ∷ t) ++ 34 ∷ []) tail room (at + length w + (1 + (length t + 1))) end i li (omega arith) g.2 s in
    record {
      items = (
        white_mid bytes front w (34 ∷ (t ++ 34 ∷ (spelt_bytes rest ++ tail))) at (at + length w) q l refl g.0,
        string_there bytes (front ++ w) t (spelt_bytes rest ++ tail) (at + length w) (at + length w + (1 + (length t + 1))) f lf refl g.1,
        more.items,
      );
      shaped = ap (λ c. Quoted (unescaped false c) (forest_shape bytes (placed (at + length w + (1 + (length t + 1))) rest)))
          (string_content bytes (front ++ w) t (spelt_bytes rest ++ tail) (at + length w) (at + length w + (1 + (length t + 1))) f lf refl)
          ∙ ap (Quoted (unescaped false t)) more.shaped;
    }
spells (Nested w inner rest) bytes front tail room at end e l m g s =
    let q : bytes ≡ front ++ (w ++ 40 ∷ (spelt_bytes inner ++ 41 ∷ (spelt_bytes rest ++ tail))) =
    e ∙ ap (λ z. front ++ z) (append_assoc w (40 ∷ (spelt_bytes inner ++ 41 ∷ spelt_bytes rest)) tail) ∙ ap (λ z. front ++ (w ++ 40 ∷ z)) (append_assoc (spelt_bytes inner) (41 ∷ spelt_bytes rest) tail) in
    let f : bytes ≡ (front ++ w) ++ 40 ∷ (spelt_bytes inner ++ 41 ∷ (spelt_bytes rest ++ tail)) = q ∙ sym (append_assoc front w (40 ∷ (spelt_bytes inner ++ 41 ∷ (spelt_bytes rest ++ tail)))) in
    let h : bytes ≡ ((front ++ w) ++ 40 ∷ []) ++ (spelt_bytes inner ++ 41 ∷ (spelt_bytes rest ++ tail)) =
    f ∙ sym (append_assoc (front ++ w) (40 ∷ []) (spelt_bytes inner ++ 41 ∷ (spelt_bytes rest ++ tail))) in
    let i : bytes ≡ (((front ++ w) ++ 40 ∷ []) ++ spelt_bytes inner) ++ 41 ∷ (spelt_bytes rest ++ tail) =
    h ∙ sym (append_assoc ((front ++ w) ++ 40 ∷ []) (spelt_bytes inner) (41 ∷ (spelt_bytes rest ++ tail))) in
    let j : bytes ≡ ((((front ++ w) ++ 40 ∷ []) ++ spelt_bytes inner) ++ 41 ∷ []) ++ (spelt_bytes rest ++ tail) =
    i ∙ sym (append_assoc (((front ++ w) ++ 40 ∷ []) ++ spelt_bytes inner) (41 ∷ []) (spelt_bytes rest ++ tail)) in
    let lf : length (front ++ w) ≡ at + length w = omega (arith, length-append front w) in
    let lh : length ((front ++ w) ++ 40 ∷ []) ≡ at + length w + 1 = omega (arith, lf, length-append (front ++ w) (40 ∷ [])) in
    let li : length (((front ++ w) ++ 40 ∷ []) ++ spelt_bytes inner) ≡ at + length w + 1 + width inner =
    omega (arith, lh, length-append ((front ++ w) ++ 40 ∷ []) (spelt_bytes inner), length-bytes inner) in
    let lj : length ((((front ++ w) ++ 40 ∷ []) ++ spelt_bytes inner) ++ 41 ∷ []) ≡ at + length w + 1 + width inner + 1 =
    omega (arith, li, length-append (((front ++ w) ++ 40 ∷ []) ++ spelt_bytes inner) (41 ∷ [])) in
    let own : Spells bytes (room - 1) (at + length w + 1) (at + length w + 1 + width inner + 1 - 1) inner =
    spells inner bytes ((front ++ w) ++ 40 ∷ []) (41 ∷ (spelt_bytes rest ++ tail)) (room - 1) (at + length w + 1) (at + length w + 1 + width inner + 1 - 1) h lh (omega arith) g.2 refl in
    let more : Spells bytes room (at + length w + 1 + width inner + 1) end rest =
    spells rest bytes ((((front ++ w) ++ 40 ∷ []) ++ spelt_bytes inner) ++ 41 ∷ []) tail room (at + length w + 1 + width inner + 1) end j lj (omega arith) g.3 s in
    record {
      items = (
        white_mid bytes front w (40 ∷ (spelt_bytes inner ++ 41 ∷ (spelt_bytes rest ++ tail))) at (at + length w) q l refl g.0,
        record {
          opening = next_byte bytes (front ++ w) (spelt_bytes inner ++ 41 ∷ (spelt_bytes rest ++ tail)) 40 (at + length w) f lf;
          order = omega arith;
          within = omega (arith, ap length j, lj, length-append ((((front ++ w) ++ 40 ∷ []) ++ spelt_bytes inner) ++ 41 ∷ []) (spelt_bytes rest ++ tail));
          closing = next_byte bytes (((front ++ w) ++ 40 ∷ []) ++ spelt_bytes inner) (spelt_bytes rest ++ tail) 41 (at + length w + 1 + width inner + 1 - 1) i (omega (arith, li));
          deep = g.1;
        },
        own.items,
        more.items,
      );
      shaped = ap (λ x. Inside x (forest_shape bytes (placed (at + length w + 1 + width inner + 1) rest))) own.shaped ∙ ap (Inside (contents inner)) more.shaped;
    }
