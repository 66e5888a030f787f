-- A layout that is one list spells that list.
use Rattle.std.proofs.Common.{◌≡◌, ◌∙◌, refl, ap, sym, subst, ℕ, ◌+◌, ◌-◌, ◌<◌, Bool, true, false, nat_lt, List, [], ◌∷◌, ◌++◌, length, IsUtf8, arith, append-nil}
use Rattle.std.specs.List.{list_all}
use Rattle.std.proofs.lemmas.Bool.{and_parts, false≢true}
use Rattle.std.proofs.lemmas.Bool.Decides.{nat_tests}
use Rattle.std.proofs.lemmas.List.Sums.{AllPass-from_list_all}
use Rattle.std.proofs.lemmas.Str.{IsUtf8-from_ascii}
use Rattle.std.proofs.lemmas.Str.Ascii.{IsAscii-from_all}
use Rattle.sexpr_text.specs.Grammar.{Forest, Items, is_space}
use Rattle.sexpr_text.specs.Grammar.Forest.{Nil, Word, Text, Group}
use Rattle.sexpr_text.specs.declared.NodeKind.TheVariants as kinds
use Rattle.text_shapes.specs.Shapes.{Shape, forest_shape}
use Rattle.text_shapes.specs.Shapes.Shape.{Over, Bare, Quoted, Inside}
use Rattle.text_shapes.specs.Layouts.{Layout, shape, is_plain, is_plain_word, is_said, starts_apart, is_good, size, laid_bytes}
use Rattle.text_shapes.specs.Layouts.Layout.{End, Name, Said, Listed}
use Rattle.text_shapes.specs.Laws.{HasRoot, LaidLaw}
use Rattle.text_shapes.proofs.Layouts.{Laid, rendered, length-flat, laid, all_imply, all_both}

-- ---- bytes below 128

abbrev is_small : ℕ → Bool
is_small c = nat_lt c 128

space_small : (c : ℕ) → is_space c ≡ true → is_small c ≡ true
space_small c h = grind (arith, nat_tests)

said_small : (c : ℕ) → is_said c ≡ true → is_small c ≡ true
said_small c h = grind (arith, nat_tests)

plain_small : (c : ℕ) → is_plain c ≡ true → is_small c ≡ true
plain_small c h = (and_parts _ (nat_lt c 128) h).1

small_flat : (l : Layout) (room : ℕ) → is_good room l ≡ true → list_all is_small (laid_bytes l) ≡ true
small_flat (End w) room g = all_imply is_space is_small space_small w g
small_flat (Name w t rest) room g =
    let p = and_parts (list_all is_space w) _ g in
    let q = and_parts (is_plain_word t) _ p.1 in
    let r = and_parts (starts_apart rest) (is_good room rest) q.1 in
    all_both is_small w (t ++ laid_bytes rest) (all_imply is_space is_small space_small w p.0)
    (all_both is_small t (laid_bytes rest) (all_imply is_plain is_small plain_small t (and_parts _ (list_all is_plain t) q.0).1) (small_flat rest room r.1))
small_flat (Said w t rest) room g =
    let p = and_parts (list_all is_space w) _ g in
    let q = and_parts (list_all is_said t) (is_good room rest) p.1 in
    all_both is_small w (34 ∷ (t ++ 34 ∷ laid_bytes rest)) (all_imply is_space is_small space_small w p.0)
    (all_both is_small t (34 ∷ laid_bytes rest) (all_imply is_said is_small said_small t q.0) (small_flat rest room q.1))
small_flat (Listed w inner rest) room g =
    let p = and_parts (list_all is_space w) _ g in
    let q = and_parts (nat_lt 0 room) _ p.1 in
    let r = and_parts (is_good (room - 1) inner) (is_good room rest) q.1 in
    all_both is_small w (40 ∷ (laid_bytes inner ++ 41 ∷ laid_bytes rest)) (all_imply is_space is_small space_small w p.0)
    (all_both is_small (laid_bytes inner) (41 ∷ laid_bytes rest) (small_flat inner (room - 1) r.0) (small_flat rest room r.1))

below : (c : ℕ) → is_small c ≡ true → c < 128
below c h = grind (arith, nat_tests)

small_utf8 : (xs : List ℕ) → list_all is_small xs ≡ true → IsUtf8 xs
small_utf8 xs h = IsUtf8-from_ascii xs (IsAscii-from_all xs (λ k d l. below _ (AllPass-from_list_all is_small xs h k d l)))

-- ---- one list

abbrev is_string_inside : Shape → Bool
is_string_inside Over = false
is_string_inside (Bare t rest) = false
is_string_inside (Quoted t rest) = false
is_string_inside (Inside inner rest) = true

abbrev is_over : Shape → Bool
is_over Over = true
is_over (Bare t rest) = false
is_over (Quoted t rest) = false
is_over (Inside inner rest) = false

abbrev inner_of : Shape → Shape
inner_of Over = Over
inner_of (Bare t rest) = Over
inner_of (Quoted t rest) = Over
inner_of (Inside inner rest) = inner

abbrev rest_of : Shape → Shape
rest_of Over = Over
rest_of (Bare t rest) = rest
rest_of (Quoted t rest) = rest
rest_of (Inside inner rest) = rest

none_left : (bytes : List ℕ) (f : Forest) → forest_shape bytes f ≡ Over → f ≡ Nil
none_left bytes Nil e = refl
none_left bytes (Word from to rest) e = absurd (false≢true (ap is_over e))
none_left bytes (Text from to rest) e = absurd (false≢true (ap is_over e))
none_left bytes (Group from to inner rest) e = absurd (false≢true (ap is_over e))

record IsOne (bytes : List ℕ) (f : Forest) (s : Shape) : Type 0 where
  from : ℕ
  to : ℕ
  inner : Forest
  is : f ≡ Group from to inner Nil
  shaped : forest_shape bytes inner ≡ s

one_list : (bytes : List ℕ) (f : Forest) (s : Shape) → forest_shape bytes f ≡ Inside s Over → IsOne bytes f s
one_list bytes Nil s e = absurd (false≢true (ap is_string_inside e))
one_list bytes (Word from to rest) s e = absurd (false≢true (ap is_string_inside e))
one_list bytes (Text from to rest) s e = absurd (false≢true (ap is_string_inside e))
one_list bytes (Group from to inner rest) s e =
    record { from = from; to = to; inner = inner; is = ap (Group from to inner) (none_left bytes rest (ap rest_of e)); shaped = ap inner_of e }

made : (bytes : List ℕ) (inner : Layout) (f : Forest) → IsUtf8 bytes → Items bytes 64 0 (length bytes) f → IsOne bytes f (shape inner) → HasRoot bytes inner
made bytes inner f u i o =
    record {
      root = record { kind = kinds.List; from = o.from; to = o.to; inner = o.inner };
      is_root = record { list = refl; spelt = record { utf8 = u; list = tt; items = subst (λ g. Items bytes 64 0 (length bytes) g) o.is i } };
      is_seen = ap (λ s. record { kind = kinds.List; text = []; inner = s }) o.shaped;
    }

pub root_there : LaidLaw
root_there bytes inner white e g =
    let f : bytes ≡ laid_bytes (Listed [] inner (End white)) = e ∙ rendered (Listed [] inner (End white)) [] ∙ append-nil (laid_bytes (Listed [] inner (End white))) in
    let n : 0 + size (Listed [] inner (End white)) ≡ length bytes = omega (arith, ap length f, length-flat (Listed [] inner (End white))) in
    let h : Laid bytes 64 0 (length bytes) (shape (Listed [] inner (End white))) = laid (Listed [] inner (End white)) bytes [] [] 64 0 (length bytes) e refl n g tt in
    made bytes inner h.forest (subst IsUtf8 (sym f) (small_utf8 (laid_bytes (Listed [] inner (End white))) (small_flat (Listed [] inner (End white)) 64 g))) h.items
    (one_list bytes h.forest (shape inner) h.shaped)
