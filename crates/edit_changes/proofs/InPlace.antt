-- A list of a board in the board's text: what stands round it, and what comes out of a text in its place.
use Rattle.std.proofs.Common.{◌≡◌, ◌∙◌, refl, ap, sym, subst, ℕ, ◌+◌, List, [], ◌∷◌, ◌++◌, map, length, arith, append_assoc, length-append}
use Rattle.std.specs.Prelude.{filter}
use Rattle.sexpr_text.specs.Items.{Item, items_of, is_headed}
use Rattle.text_splices.specs.Splice.{IsSplice}
use Rattle.board_text.specs.Lists.{is_list, lists_of}
use Rattle.text_shapes.specs.Seen.{item_seen, parts}
use Rattle.text_shapes.specs.Spellings.{spelt_bytes, contents, IsTextSpelling}
use Rattle.text_shapes.specs.Spellings.Spelling.{Ends, Nested}
use Rattle.text_shapes.proofs.Seen.{heads, heads_seen, groups, groups_seen, is_group, length-map_is}
use Rattle.text_shapes.proofs.Spellings.{length-bytes}
use Rattle.edit_changes.proofs.Holes.{Hole, Into, plug, front, back, plug_bytes, list_seen, lists_before, lists_in, lists_plug}
use Rattle.edit_changes.proofs.Texts.{IsSpelt, splice_is}
use Rattle.edit_changes.proofs.Lists.{Lists, value_bytes}
use Rattle.edit_changes.proofs.Found.{IsListHole, list_hole}
use Rattle.edit_changes.proofs.Patches.{same_head, same_tail}
use Rattle.edit_changes.proofs.Boards.{map_append}

pub same_split : {X : Type 0} (xs ys us vs : List X) → length xs ≡ length us → xs ++ ys ≡ us ++ vs → (xs ≡ us) × (ys ≡ vs)
same_split [] ys [] vs l e = (refl, e)
same_split [] ys (u ∷ us) vs l e = absurd (omega (arith, l))
same_split (x ∷ xs) ys [] vs l e = absurd (omega (arith, l))
same_split (x ∷ xs) ys (u ∷ us) vs l e =
    let s = same_split xs ys us vs (omega (arith, l)) (same_tail e) in
    (ap (λ z. z ∷ xs) (same_head e) ∙ ap (λ z. u ∷ z) s.0, s.1)

pub list_apart : (f w i r k : List ℕ) → f ++ ((w ++ 40 ∷ (i ++ 41 ∷ r)) ++ k) ≡ (f ++ w) ++ ((40 ∷ (i ++ 41 ∷ [])) ++ (r ++ k))
list_apart f w i r k =
    ap (λ z. f ++ z) (append_assoc w (40 ∷ (i ++ 41 ∷ r)) k ∙ ap (λ z. w ++ 40 ∷ z) (append_assoc i (41 ∷ r) k ∙ sym (append_assoc i (41 ∷ []) (r ++ k))))
    ∙ sym (append_assoc f w ((40 ∷ (i ++ 41 ∷ [])) ++ (r ++ k)))

-- where a list of the board stands in its spelling
pub hole_there : (text : List ℕ) (root : Item) (p : IsSpelt text root) (xs ys : List Item) (i : Item) → lists_of root ≡ xs ++ i ∷ ys → IsListHole (length p.before + 1) p.inner xs i
hole_there text root p xs ys i e = list_hole p.inner (length p.before + 1) xs ys i (ap (λ f. filter is_list (items_of f)) (sym p.root_is) ∙ e)

module _ (text : List ℕ) (root : Item) (p : IsSpelt text root) (xs ys : List Item) (i : Item) (h : IsListHole (length p.before + 1) p.inner xs i) where
  abbrev pub place : Hole
  place = Into p.before h.hole (Ends p.behind)

  pub whole : plug place (Nested h.white h.inner h.rest) ≡ Nested p.before p.inner (Ends p.behind)
  whole = ap (λ z. Nested p.before z (Ends p.behind)) (sym h.is)

  pub place_good : IsTextSpelling 64 (plug place (Nested h.white h.inner h.rest))
  place_good = subst (IsTextSpelling 64) (sym whole) p.good

  text_is : text ≡ (front place ++ h.white) ++ (value_bytes (Lists h.inner) ++ (spelt_bytes h.rest ++ back place))
  text_is =
      p.is ∙ ap spelt_bytes (sym whole) ∙ plug_bytes place (Nested h.white h.inner h.rest) ∙ list_apart (front place) h.white (spelt_bytes h.inner) (spelt_bytes h.rest) (back place)

  pub from_there : length (front place ++ h.white) ≡ i.from
  from_there =
      let f = h.from_is in
      omega (arith, f, length-append (p.before ++ 40 ∷ front h.hole) h.white, length-append p.before (40 ∷ front h.hole))

  to_there : i.from + length (value_bytes (Lists h.inner)) ≡ i.to
  to_there =
      let t = h.to_is in
      omega (arith, t, length-append (spelt_bytes h.inner) (41 ∷ []), length-bytes h.inner)

  -- the text with some bytes in place of the list
  pub instead : (put new : List ℕ) → IsSplice text i.from i.to put new → new ≡ (front place ++ h.white) ++ (put ++ (spelt_bytes h.rest ++ back place))
  instead put new s =
      splice_is text new put (front place ++ h.white) (value_bytes (Lists h.inner)) (spelt_bytes h.rest ++ back place) i.from i.to text_is from_there to_there s

  -- ---- what is seen of the lists
  pub lists_there : groups (item_seen text root) ≡ lists_before h.hole ++ list_seen (contents h.inner) ∷ lists_in h.rest
  lists_there = ap (λ z. filter is_group (parts z)) p.shaped ∙ ap lists_in h.is ∙ lists_plug h.hole (Nested h.white h.inner h.rest) h.flat

  split : lists_of root ≡ xs ++ i ∷ ys
      → (map (item_seen text) xs ≡ lists_before h.hole) × (item_seen text i ∷ map (item_seen text) ys ≡ list_seen (contents h.inner) ∷ lists_in h.rest)
  split e =
      let c = h.count in
      same_split (map (item_seen text) xs) (item_seen text i ∷ map (item_seen text) ys) (lists_before h.hole) (list_seen (contents h.inner) ∷ lists_in h.rest)
      (sym (length-map_is (item_seen text) xs) ∙ c) (sym (ap (map (item_seen text)) e ∙ map_append (item_seen text) xs (i ∷ ys)) ∙ groups_seen text root ∙ lists_there)

  pub front_seen : lists_of root ≡ xs ++ i ∷ ys → map (item_seen text) xs ≡ lists_before h.hole
  front_seen e = (split e).0

  pub item_there : lists_of root ≡ xs ++ i ∷ ys → item_seen text i ≡ list_seen (contents h.inner)
  item_there e = same_head (split e).1

  pub behind_there : lists_of root ≡ xs ++ i ∷ ys → map (item_seen text) ys ≡ lists_in h.rest
  behind_there e = same_tail (split e).1

  pub head_there : lists_of root ≡ xs ++ i ∷ ys → (name : List ℕ) → heads name (list_seen (contents h.inner)) ≡ is_headed text name i
  head_there e name = ap (heads name) (sym (item_there e)) ∙ sym (heads_seen text name i)
