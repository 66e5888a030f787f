-- What texts spell that are put together from white space, words, strings and lists.
use Rattle.std.proofs.Common.{◌≡◌, ◌∙◌, refl, ap, sym, ℕ, zero, suc, ◌+◌, ◌-◌, ◌<◌, ◌≤◌, Bool, true, false, ◌&&◌, not, ◌==◌, nat_lt, List, [], ◌∷◌, ◌++◌, length, take, drop, get_or, slice_index, slice_range, arith, length-append, append_assoc}
use Rattle.std.specs.List.{list_all}
use Rattle.std.proofs.lemmas.Bool.{and_parts, false≢true}
use Rattle.std.proofs.lemmas.Bool.Decides.{nat_tests}
use Rattle.std.proofs.lemmas.List.{get_or_append_left, get_or-append_right}
use Rattle.std.proofs.lemmas.List.Sums.{AllPass-from_list_all}
use Rattle.std.proofs.Math.Seq.{get_or-append_seam, take-append_seam, drop-append_seam}
use Rattle.sexpr_text.specs.Grammar.{Forest, Items, HoldsBetween, IsWhite, IsWord, IsString, is_space, is_word, is_escaped}
use Rattle.sexpr_text.specs.Grammar.Forest.{Nil, Word, Text, Group}
use Rattle.sexpr_text.specs.Items.{unescaped}
use Rattle.text_shapes.specs.Shapes.{Shape, forest_shape}
use Rattle.text_shapes.specs.Shapes.Shape.{Bare, Quoted, Inside}
use Rattle.text_shapes.specs.Layouts.{Layout, render, shape, is_plain, is_plain_word, is_said, starts_apart, is_good, EndsWord, size, laid_bytes}
use Rattle.text_shapes.specs.Layouts.Layout.{End, Name, Said, Listed}

-- ---- lists of bytes

-- what passes the one test passes the other
pub all_imply : (p q : ℕ → Bool) → ((c : ℕ) → p c ≡ true → q c ≡ true) → (xs : List ℕ) → list_all p xs ≡ true → list_all q xs ≡ true
all_imply p q f [] h = refl
all_imply p q f (x ∷ xs) h =
    let a = and_parts (p x) (list_all p xs) h in
    ap (λ b. b && list_all q xs) (f x a.0) ∙ all_imply p q f xs a.1

pub all_both : (p : ℕ → Bool) (xs ys : List ℕ) → list_all p xs ≡ true → list_all p ys ≡ true → list_all p (xs ++ ys) ≡ true
all_both p [] ys h g = g
all_both p (x ∷ xs) ys h g =
    let a = and_parts (p x) (list_all p xs) h in
    ap (λ b. b && list_all p (xs ++ ys)) a.0 ∙ all_both p xs ys a.1 g

-- a byte of the middle part
pub mid_byte : (bytes front w back : List ℕ) (at k : ℕ) → bytes ≡ front ++ (w ++ back) → length front ≡ at → at ≤ k → k < at + length w
    → slice_index bytes k ≡ slice_index w (k - at)
mid_byte bytes front w back at k e l low high =
    ap (λ b. get_or b k 0) e ∙ get_or-append_right front (w ++ back) at k 0 l low ∙ get_or_append_left w back 0 (k - at) (omega arith)

-- each of them
pub holds_mid : (p : ℕ → Bool) (bytes front w back : List ℕ) (at to : ℕ) → bytes ≡ front ++ (w ++ back) → length front ≡ at → at + length w ≡ to
    → list_all p w ≡ true → HoldsBetween p bytes at to
holds_mid p bytes front w back at to e l m h k low high =
    ap p (mid_byte bytes front w back at k e l low (omega arith)) ∙ AllPass-from_list_all p w h (k - at) 0 (omega arith)

-- the byte right behind the front
pub next_byte : (bytes front back : List ℕ) (c at : ℕ) → bytes ≡ front ++ c ∷ back → length front ≡ at → slice_index bytes at ≡ c
next_byte bytes front back c at e l = ap (λ b. get_or b at 0) e ∙ ap (λ k. get_or (front ++ c ∷ back) k 0) (sym l) ∙ get_or-append_seam front c back 0

-- the middle part
pub mid_part : (bytes front w back : List ℕ) (at to : ℕ) → bytes ≡ front ++ (w ++ back) → length front ≡ at → at + length w ≡ to → slice_range bytes at to ≡ w
mid_part bytes front w back at to e l m =
    let n : to - at ≡ length w = omega arith in
    ap (λ b. take (to - at) (drop at b)) e ∙ ap (λ k. take (to - at) (drop k (front ++ (w ++ back)))) (sym l) ∙ ap (take (to - at)) (drop-append_seam front (w ++ back))
    ∙ ap (λ k. take k (w ++ back)) n ∙ take-append_seam w back

pub length_three : (bytes front w back : List ℕ) (at to : ℕ) → bytes ≡ front ++ (w ++ back) → length front ≡ at → at + length w ≡ to → to ≤ length bytes
length_three bytes front w back at to e l m = omega (arith, ap length e, length-append front (w ++ back), length-append w back)

pub white_mid : (bytes front w back : List ℕ) (at to : ℕ) → bytes ≡ front ++ (w ++ back) → length front ≡ at → at + length w ≡ to → list_all is_space w ≡ true → IsWhite bytes at to
white_mid bytes front w back at to e l m h =
    record { order = omega arith; within = length_three bytes front w back at to e l m; each = holds_mid is_space bytes front w back at to e l m h }

-- ---- words

pub word_of_plain : (t : List ℕ) → list_all is_plain t ≡ true → list_all is_word t ≡ true
word_of_plain t h = all_imply is_plain is_word (λ c e. (and_parts (is_word c) (nat_lt c 128) e).0) t h

pub some_length : (n : ℕ) → not (n == 0) ≡ true → 0 < n
some_length n h = grind (arith, nat_tests)

pub stop_byte : (bytes front back : List ℕ) (at : ℕ) → bytes ≡ front ++ back → length front ≡ at → EndsWord back → at < length bytes → is_word (slice_index bytes at) ≡ false
stop_byte bytes front [] at e l s less = absurd (omega (arith, ap length e, length-append front []))
stop_byte bytes front (c ∷ back) at e l s less = ap is_word (next_byte bytes front back c at e l) ∙ s

word_mid : (bytes front t back : List ℕ) (at to : ℕ) → bytes ≡ front ++ (t ++ back) → length front ≡ at → at + length t ≡ to → is_plain_word t ≡ true → EndsWord back → IsWord bytes at to
word_mid bytes front t back at to e l m h s =
    let p = and_parts (not (length t == 0)) (list_all is_plain t) h in
    let some : 0 < length t = some_length (length t) p.0 in
    let f : bytes ≡ (front ++ t) ++ back = e ∙ sym (append_assoc front t back) in
    record {
      order = omega arith;
      within = length_three bytes front t back at to e l m;
      each = holds_mid is_word bytes front t back at to e l m (word_of_plain t p.1);
      longest = stop_byte bytes (front ++ t) back to f (omega (arith, length-append front t)) s;
    }

-- ---- strings

no_quote : (c : ℕ) → is_said c ≡ true → c ≡ 34 → ⊥
no_quote c h e = false≢true (ap is_said (sym e) ∙ h)

no_slash : (c : ℕ) → is_said c ≡ true → (c == 92) ≡ false
no_slash c h = grind (arith, nat_tests)

said_byte : (t : List ℕ) (k : ℕ) → list_all is_said t ≡ true → k < length t → is_said (get_or t k 0) ≡ true
said_byte t k h l = AllPass-from_list_all is_said t h k 0 l

flag_step : (b : Bool) (c : ℕ) → (c == 92) ≡ false → (not b && c == 92) ≡ false
flag_step true c e = refl
flag_step false c e = e

-- no byte in the string is escaped
plain_inside : (bytes front t back : List ℕ) (at n : ℕ) → bytes ≡ front ++ (t ++ back) → length front ≡ at → list_all is_said t ≡ true → n ≤ length t → is_escaped bytes at n ≡ false
plain_inside bytes front t back at zero e l h m = refl
plain_inside bytes front t back at (suc n) e l h m =
    let k : at + n - at ≡ n = omega arith in
    let b : slice_index bytes (at + n) ≡ slice_index t n = mid_byte bytes front t back at (at + n) e l (omega arith) (omega arith) ∙ ap (λ i. get_or t i 0) k in
    flag_step (is_escaped bytes at n) (slice_index bytes (at + n)) (ap (λ c. c == 92) b ∙ no_slash (slice_index t n) (said_byte t n h (omega arith)))

string_mid : (bytes front t back : List ℕ) (at to : ℕ) → bytes ≡ front ++ 34 ∷ (t ++ 34 ∷ back) → length front ≡ at → at + (1 + (length t + 1)) ≡ to → list_all is_said t ≡ true
    → IsString bytes at to
string_mid bytes front t back at to e l m h =
    let f : bytes ≡ (front ++ 34 ∷ []) ++ (t ++ 34 ∷ back) = e ∙ sym (append_assoc front (34 ∷ []) (t ++ 34 ∷ back)) in
    let g : bytes ≡ ((front ++ 34 ∷ []) ++ t) ++ 34 ∷ back = f ∙ sym (append_assoc (front ++ 34 ∷ []) t (34 ∷ back)) in
    let lf : length (front ++ 34 ∷ []) ≡ at + 1 = omega (arith, length-append front (34 ∷ [])) in
    let lg : length ((front ++ 34 ∷ []) ++ t) ≡ to - 1 = omega (arith, length-append (front ++ 34 ∷ []) t) in
    let n : to - 1 - (at + 1) ≡ length t = omega arith in
    record {
      opening = next_byte bytes front (t ++ 34 ∷ back) 34 at e l;
      order = omega arith;
      within = omega (arith, ap length g, length-append ((front ++ 34 ∷ []) ++ t) (34 ∷ back));
      closing = next_byte bytes ((front ++ 34 ∷ []) ++ t) back 34 (to - 1) g lg;
      ends = ap (is_escaped bytes (at + 1)) n ∙ plain_inside bytes (front ++ 34 ∷ []) t (34 ∷ back) (at + 1) (length t) f lf h (omega arith);
      first = λ k less quote.
          let i : at + 1 + k - (at + 1) ≡ k = omega arith in
          let low : k < length t = omega arith in
          absurd (no_quote (get_or t k 0) (said_byte t k h low)
          (sym (mid_byte bytes (front ++ 34 ∷ []) t (34 ∷ back) (at + 1) (at + 1 + k) f lf (omega arith) (omega arith) ∙ ap (λ j. get_or t j 0) i) ∙ quote));
    }

plain_content : (t : List ℕ) → list_all is_said t ≡ true → unescaped false t ≡ t
plain_content [] h = refl
plain_content (c ∷ t) h =
    let p = and_parts (is_said c) (list_all is_said t) h in
    rw (no_slash c p.0) (ap (λ cs. c ∷ cs) (plain_content t p.1))

string_content : (bytes front t back : List ℕ) (at to : ℕ) → bytes ≡ front ++ 34 ∷ (t ++ 34 ∷ back) → length front ≡ at → at + (1 + (length t + 1)) ≡ to → list_all is_said t ≡ true
    → unescaped false (slice_range bytes (at + 1) (to - 1)) ≡ t
string_content bytes front t back at to e l m h =
    let f : bytes ≡ (front ++ 34 ∷ []) ++ (t ++ 34 ∷ back) = e ∙ sym (append_assoc front (34 ∷ []) (t ++ 34 ∷ back)) in
    let lf : length (front ++ 34 ∷ []) ≡ at + 1 = omega (arith, length-append front (34 ∷ [])) in
    ap (unescaped false) (mid_part bytes (front ++ 34 ∷ []) t (34 ∷ back) (at + 1) (to - 1) f lf (omega arith)) ∙ plain_content t h

-- ---- layouts

pub rendered : (l : Layout) (tail : List ℕ) → render l tail ≡ laid_bytes l ++ tail
rendered (End w) tail = refl
rendered (Name w t rest) tail =
    ap (λ r. w ++ (t ++ r)) (rendered rest tail) ∙ ap (λ r. w ++ r) (sym (append_assoc t (laid_bytes rest) tail)) ∙ sym (append_assoc w (t ++ laid_bytes rest) tail)
rendered (Said w t rest) tail =
    ap (λ r. w ++ 34 ∷ (t ++ 34 ∷ r)) (rendered rest tail) ∙ ap (λ r. w ++ 34 ∷ r) (sym (append_assoc t (34 ∷ laid_bytes rest) tail)) ∙ sym (append_assoc w (34 ∷ (t ++ 34 ∷ laid_bytes rest)) tail)
rendered (Listed w inner rest) tail =
    ap (λ r. w ++ 40 ∷ r) (rendered inner (41 ∷ render rest tail)) ∙ ap (λ r. w ++ 40 ∷ (laid_bytes inner ++ 41 ∷ r)) (rendered rest tail)
    ∙ ap (λ r. w ++ 40 ∷ r) (sym (append_assoc (laid_bytes inner) (41 ∷ laid_bytes rest) tail)) ∙ sym (append_assoc w (40 ∷ (laid_bytes inner ++ 41 ∷ laid_bytes rest)) tail)

pub length-flat : (l : Layout) → length (laid_bytes l) ≡ size l
length-flat (End w) = refl
length-flat (Name w t rest) = omega (arith, length-append w (t ++ laid_bytes rest), length-append t (laid_bytes rest), length-flat rest)
length-flat (Said w t rest) =
    omega (arith, length-append w (34 ∷ (t ++ 34 ∷ laid_bytes rest)), length-append t (34 ∷ laid_bytes rest), length-flat rest)
length-flat (Listed w inner rest) =
    omega (arith, length-append w (40 ∷ (laid_bytes inner ++ 41 ∷ laid_bytes rest)), length-append (laid_bytes inner) (41 ∷ laid_bytes rest), length-flat inner, length-flat rest)

-- the items that a part of a text spells, and their contents
pub record Laid (bytes : List ℕ) (room at end : ℕ) (s : Shape) : Type 0 where
  pub forest : Forest
  pub items : Items bytes room at end forest
  pub shaped : forest_shape bytes forest ≡ s

pub space_no_word : (c : ℕ) → is_space c ≡ true → is_word c ≡ false
space_no_word c h = rw h refl

pub white_stop : (w tail : List ℕ) → list_all is_space w ≡ true → EndsWord tail → EndsWord (w ++ tail)
white_stop [] tail h s = s
white_stop (c ∷ w) tail h s = space_no_word c (and_parts (is_space c) (list_all is_space w) h).0

stops : (l : Layout) (room : ℕ) (tail : List ℕ) → is_good room l ≡ true → starts_apart l ≡ true → EndsWord tail → EndsWord (render l tail)
stops (End w) room tail g a s = white_stop w tail g s
stops (Name [] t rest) room tail g a s = absurd (false≢true a)
stops (Name (c ∷ w) t rest) room tail g a s = space_no_word c (and_parts (is_space c) (list_all is_space w) (and_parts (list_all is_space (c ∷ w)) _ g).0).0
stops (Said w t rest) room tail g a s = white_stop w (34 ∷ (t ++ 34 ∷ render rest tail)) (and_parts (list_all is_space w) _ g).0 refl
stops (Listed w inner rest) room tail g a s = white_stop w (40 ∷ render inner (41 ∷ render rest tail)) (and_parts (list_all is_space w) _ g).0 refl

pub laid : (l : Layout) (bytes front tail : List ℕ) (room at end : ℕ) → bytes ≡ front ++ render l tail → length front ≡ at → at + size l ≡ end → is_good room l ≡ true → EndsWord tail
    → Laid bytes room at end (shape l)
laid (End w) bytes front tail room at end e l m g s = record { forest = Nil; items = white_mid bytes front w tail at end e l m g; shaped = refl }
laid (Name w t rest) bytes front tail room at end e l m g s =
    let p = and_parts (list_all is_space w) _ g in
    let q = and_parts (is_plain_word t) _ p.1 in
    let r = and_parts (starts_apart rest) (is_good room rest) q.1 in
    let f : bytes ≡ (front ++ w) ++ (t ++ render rest tail) = e ∙ sym (append_assoc front w (t ++ render rest tail)) in
    let h : bytes ≡ ((front ++ w) ++ t) ++ render rest tail = f ∙ sym (append_assoc (front ++ w) t (render rest tail)) in
    let lf : length (front ++ w) ≡ at + length w = omega (arith, length-append front w) in
    let lh : length ((front ++ w) ++ t) ≡ at + length w + length t = omega (arith, length-append (front ++ w) t) in
    let more : Laid bytes room (at + length w + length t) end (shape rest) = laid rest bytes ((front ++ w) ++ t) tail room (at + length w + length t) end h lh (omega arith) r.1 s in
    record {
      forest = Word (at + length w) (at + length w + length t) more.forest;
      items = (
        white_mid bytes front w (t ++ render rest tail) at (at + length w) e l refl p.0,
        word_mid bytes (front ++ w) t (render rest tail) (at + length w) (at + length w + length t) f lf refl q.0 (stops rest room tail r.1 r.0 s),
        more.items,
      );
      shaped = ap (λ c. Bare c (forest_shape bytes more.forest)) (mid_part bytes (front ++ w) t (render rest tail) (at + length w) (at + length w + length t) f lf refl) ∙ ap (Bare t) more.shaped;
    }
laid (Said w t rest) bytes front tail room at end e l m g s =
    let p = and_parts (list_all is_space w) _ g in
    let q = and_parts (list_all is_said t) (is_good room rest) p.1 in
    let f : bytes ≡ (front ++ w) ++ 34 ∷ (t ++ 34 ∷ render rest tail) = e ∙ sym (append_assoc front w (34 ∷ (t ++ 34 ∷ render rest tail))) in
    let h : bytes ≡ ((front ++ w) ++ 34 ∷ t) ++ 34 ∷ render rest tail = f ∙ sym (append_assoc (front ++ w) (34 ∷ t) (34 ∷ render rest tail)) in
    let i : bytes ≡ (((front ++ w) ++ 34 ∷ t) ++ 34 ∷ []) ++ render rest tail = h ∙ sym (append_assoc ((front ++ w) ++ 34 ∷ t) (34 ∷ []) (render rest tail)) in
    let lf : length (front ++ w) ≡ at + length w = omega (arith, length-append front w) in
    let li : length (((front ++ w) ++ 34 ∷ t) ++ 34 ∷ []) ≡ at + length w + (1 + (length t + 1)) =
    omega (arith, lf, length-append (front ++ w) (34 ∷ t), length-append ((front ++ w) ++ 34 ∷ t) (34 ∷ [])) in
    let more : Laid bytes room (at + length w + (1 + (length t + 1))) end (shape rest) =
    laid rest bytes (((front ++ w) ++ 34 ∷ t) ++ 34 ∷ []) tail room (at + length w + (1 + (length t + 1))) end i li (omega arith) q.1 s in
    record {
      forest = Text (at + length w) (at + length w + (1 + (length t + 1))) more.forest;
      items = (
        white_mid bytes front w (34 ∷ (t ++ 34 ∷ render rest tail)) at (at + length w) e l refl p.0,
        string_mid bytes (front ++ w) t (render rest tail) (at + length w) (at + length w + (1 + (length t + 1))) f lf refl q.0,
        more.items,
      );
      shaped = ap (λ c. Quoted c (forest_shape bytes more.forest)) (string_content bytes (front ++ w) t (render rest tail) (at + length w) (at + length w + (1 + (length t + 1))) f lf refl q.0)
          ∙ ap (Quoted t) more.shaped;
    }
laid (Listed w inner rest) bytes front tail room at end e l m g s =
    let p = and_parts (list_all is_space w) _ g in
    let q = and_parts (nat_lt 0 room) _ p.1 in
    let r = and_parts (is_good (room - 1) inner) (is_good room rest) q.1 in
    let f : bytes ≡ (front ++ w) ++ 40 ∷ render inner (41 ∷ render rest tail) = e ∙ sym (append_assoc front w (40 ∷ render inner (41 ∷ render rest tail))) in
    let h : bytes ≡ ((front ++ w) ++ 40 ∷ []) ++ render inner (41 ∷ render rest tail) = f ∙ sym (append_assoc (front ++ w) (40 ∷ []) (render inner (41 ∷ render rest tail))) in
    let i : bytes ≡ (((front ++ w) ++ 40 ∷ []) ++ laid_bytes inner) ++ 41 ∷ render rest tail =
    h ∙ ap (λ x. ((front ++ w) ++ 40 ∷ []) ++ x) (rendered inner (41 ∷ render rest tail)) ∙ sym (append_assoc ((front ++ w) ++ 40 ∷ []) (laid_bytes inner) (41 ∷ render rest tail)) in
    let j : bytes ≡ ((((front ++ w) ++ 40 ∷ []) ++ laid_bytes inner) ++ 41 ∷ []) ++ render rest tail =
    i ∙ sym (append_assoc (((front ++ w) ++ 40 ∷ []) ++ laid_bytes inner) (41 ∷ []) (render rest tail)) in
    let lf : length (front ++ w) ≡ at + length w = omega (arith, length-append front w) in
    let lh : length ((front ++ w) ++ 40 ∷ []) ≡ at + length w + 1 = omega (arith, lf, length-append (front ++ w) (40 ∷ [])) in
    let li : length (((front ++ w) ++ 40 ∷ []) ++ laid_bytes inner) ≡ at + length w + 1 + size inner = omega (arith, lh, length-append ((front ++ w) ++ 40 ∷ []) (laid_bytes inner), length-flat inner) in
    let lj : length ((((front ++ w) ++ 40 ∷ []) ++ laid_bytes inner) ++ 41 ∷ []) ≡ at + length w + 1 + size inner + 1 =
    omega (arith, li, length-append (((front ++ w) ++ 40 ∷ []) ++ laid_bytes inner) (41 ∷ [])) in
    let back : at + length w + 1 + size inner + 1 - 1 ≡ at + length w + 1 + size inner = omega arith in
    let own : Laid bytes (room - 1) (at + length w + 1) (at + length w + 1 + size inner + 1 - 1) (shape inner) =
    laid inner bytes ((front ++ w) ++ 40 ∷ []) (41 ∷ render rest tail) (room - 1) (at + length w + 1) (at + length w + 1 + size inner + 1 - 1) h lh (omega arith) r.0 refl in
    let more : Laid bytes room (at + length w + 1 + size inner + 1) end (shape rest) =
    laid rest bytes ((((front ++ w) ++ 40 ∷ []) ++ laid_bytes inner) ++ 41 ∷ []) tail room (at + length w + 1 + size inner + 1) end j lj (omega arith) r.1 s in
    record {
      forest = Group (at + length w) (at + length w + 1 + size inner + 1) own.forest more.forest;
      items = (
        white_mid bytes front w (40 ∷ render inner (41 ∷ render rest tail)) at (at + length w) e l refl p.0,
        record {
          opening = next_byte bytes (front ++ w) (render inner (41 ∷ render rest tail)) 40 (at + length w) f lf;
          order = omega arith;
          within = omega (arith, ap length j, lj, length-append ((((front ++ w) ++ 40 ∷ []) ++ laid_bytes inner) ++ 41 ∷ []) (render rest tail));
          closing = next_byte bytes (((front ++ w) ++ 40 ∷ []) ++ laid_bytes inner) (render rest tail) 41 (at + length w + 1 + size inner + 1 - 1) i (omega (arith, li));
          deep = room_there room q.0;
        },
        own.items,
        more.items,
      );
      shaped = ap (λ x. Inside x (forest_shape bytes more.forest)) own.shaped ∙ ap (Inside (shape inner)) more.shaped;
    }
  where
    room_there : (n : ℕ) → nat_lt 0 n ≡ true → 0 < n
    room_there n h = grind (arith, nat_tests)
