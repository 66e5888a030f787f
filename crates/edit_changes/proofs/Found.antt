-- Where the lists of a spelling stand.
use Rattle.std.proofs.Common.{◌≡◌, ◌∙◌, refl, ap, sym, ℕ, suc, ◌+◌, List, [], ◌∷◌, ◌++◌, length, arith, length-append}
use Rattle.std.specs.Prelude.{filter}
use Rattle.sexpr_text.specs.Items.{Item, items_of}
use Rattle.board_text.specs.Lists.{is_list}
use Rattle.text_shapes.specs.Spellings.{Spelling, spelt_bytes, width, placed}
use Rattle.text_shapes.specs.Spellings.Spelling.{Ends, Named, Strung, Nested}
use Rattle.text_shapes.proofs.Spellings.{length-bytes}
use Rattle.edit_changes.proofs.Holes.{Hole, Here, PastName, PastString, PastList, plug, front, IsFlat, lists_before}
use Rattle.edit_changes.proofs.Patches.{same_head, same_tail, none_some}

-- the item is a list of the spelling, which stands at this place; so many lists stand before it
pub record IsListHole (at : ℕ) (s : Spelling) (before : List Item) (i : Item) : Type 0 where
  pub hole : Hole
  pub white : List ℕ
  pub inner : Spelling
  pub rest : Spelling
  pub flat : IsFlat hole
  pub is : s ≡ plug hole (Nested white inner rest)
  pub from_is : i.from ≡ at + (length (front hole) + length white)
  pub to_is : i.to ≡ i.from + 1 + width inner + 1
  pub inner_is : i.inner ≡ placed (i.from + 1) inner
  pub count : length before ≡ length (lists_before hole)

no_item : (xs ys : List Item) (i : Item) → [] ≡ xs ++ i ∷ ys → ⊥
no_item [] ys i e = none_some e
no_item (x ∷ xs) ys i e = none_some e

pub past_name : (at : ℕ) (w t : List ℕ) (rest : Spelling) (xs : List Item) (i : Item) → IsListHole (at + length w + length t) rest xs i → IsListHole at (Named w t rest) xs i
past_name at w t rest xs i h =
    let f = h.from_is in
    record {
      hole = PastName w t h.hole;
      white = h.white;
      inner = h.inner;
      rest = h.rest;
      flat = h.flat;
      is = ap (Named w t) h.is;
      from_is = omega (arith, f, length-append w (t ++ front h.hole), length-append t (front h.hole));
      to_is = h.to_is;
      inner_is = h.inner_is;
      count = h.count;
    }

pub past_string : (at : ℕ) (w t : List ℕ) (rest : Spelling) (xs : List Item) (i : Item) → IsListHole (at + length w + (1 + (length t + 1))) rest xs i → IsListHole at (Strung w t rest) xs i
past_string at w t rest xs i h =
    let f = h.from_is in
    record {
      hole = PastString w t h.hole;
      white = h.white;
      inner = h.inner;
      rest = h.rest;
      flat = h.flat;
      is = ap (Strung w t) h.is;
      from_is = omega (arith, f, length-append w (34 ∷ (t ++ 34 ∷ front h.hole)), length-append t (34 ∷ front h.hole));
      to_is = h.to_is;
      inner_is = h.inner_is;
      count = h.count;
    }

pub past_list : (at : ℕ) (w : List ℕ) (inner rest : Spelling) (x : Item) (xs : List Item) (i : Item) → IsListHole (at + length w + 1 + width inner + 1) rest xs i
    → IsListHole at (Nested w inner rest) (x ∷ xs) i
past_list at w inner rest x xs i h =
    let f = h.from_is in
    let c = h.count in
    record {
      hole = PastList w inner h.hole;
      white = h.white;
      inner = h.inner;
      rest = h.rest;
      flat = h.flat;
      is = ap (Nested w inner) h.is;
      from_is = omega (arith, f, length-append w (40 ∷ (spelt_bytes inner ++ 41 ∷ front h.hole)), length-append (spelt_bytes inner) (41 ∷ front h.hole), length-bytes inner);
      to_is = h.to_is;
      inner_is = h.inner_is;
      count = ap suc c;
    }

pub right_here : (at : ℕ) (w : List ℕ) (inner rest : Spelling) (i : Item)
    → record { kind = Rattle.sexpr_text.specs.declared.NodeKind.TheVariants.List; from = at + length w; to = at + length w + 1 + width inner + 1; inner = placed (at + length w + 1) inner } ≡ i
    → IsListHole at (Nested w inner rest) [] i
right_here at w inner rest i e =
    let f : i.from ≡ at + length w = sym (ap (λ (x : Item). x.from) e) in
    let t : i.to ≡ at + length w + 1 + width inner + 1 = sym (ap (λ (x : Item). x.to) e) in
    record {
      hole = Here;
      white = w;
      inner = inner;
      rest = rest;
      flat = tt;
      is = refl;
      from_is = omega (arith, f);
      to_is = t ∙ ap (λ n. n + 1 + width inner + 1) (sym f);
      inner_is = sym (ap (λ (x : Item). x.inner) e) ∙ ap (λ n. placed (n + 1) inner) (sym f);
      count = refl;
    }

pub list_hole : (s : Spelling) (at : ℕ) (xs ys : List Item) (i : Item) → filter is_list (items_of (placed at s)) ≡ xs ++ i ∷ ys → IsListHole at s xs i
list_hole (Ends w) at xs ys i e = absurd (no_item xs ys i e)
list_hole (Named w t rest) at xs ys i e = past_name at w t rest xs i (list_hole rest (at + length w + length t) xs ys i e)
list_hole (Strung w t rest) at xs ys i e = past_string at w t rest xs i (list_hole rest (at + length w + (1 + (length t + 1))) xs ys i e)
list_hole (Nested w inner rest) at [] ys i e = right_here at w inner rest i (same_head e)
list_hole (Nested w inner rest) at (x ∷ xs) ys i e = past_list at w inner rest x xs i (list_hole rest (at + length w + 1 + width inner + 1) xs ys i (same_tail e))
