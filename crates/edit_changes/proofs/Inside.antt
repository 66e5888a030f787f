-- The first list of a head in a list whose spelling is known.
use Rattle.std.proofs.Common.{◌≡◌, ◌∙◌, refl, ap, sym, subst, ℕ, ◌+◌, Bool, true, false, cond, List, [], ◌∷◌, ◌++◌, map, length, None, Some}
use Rattle.std.specs.Prelude.{filter, find}
use Rattle.std.proofs.lemmas.Option.{none-some, same_Some}
use Rattle.sexpr_text.specs.Grammar.{Forest}
use Rattle.sexpr_text.specs.Grammar.Forest.{Nil, Word, Text, Group}
use Rattle.sexpr_text.specs.Items.{Item, items_of, is_headed}
use Rattle.sexpr_text.specs.declared.NodeKind.TheVariants as kinds
use Rattle.board_text.specs.Lists.{is_list}
use Rattle.board_text.specs.Fields.{list_of}
use Rattle.text_shapes.specs.Shapes.{forest_shape}
use Rattle.text_shapes.specs.Seen.{ItemSeen, item_seen, parts, is_named}
use Rattle.text_shapes.specs.Spellings.{Spelling, width, contents, placed}
use Rattle.text_shapes.specs.Spellings.Spelling.{Nested}
use Rattle.text_shapes.proofs.Seen.{heads, heads_seen, is_group, groups_seen, length-map_is, sub_seen}
use Rattle.edit_changes.proofs.Holes.{Hole, plug, front, IsFlat, list_seen, lists_before, lists_in, lists_plug}
use Rattle.edit_changes.proofs.Found.{IsListHole, list_hole}
use Rattle.edit_changes.proofs.Patches.{AllFail, find_lists, same_head}
use Rattle.edit_changes.proofs.Boards.{map_append}
use Rattle.edit_changes.proofs.InPlace.{same_split}

record IsFirst (text name : List ℕ) (f : Forest) (x : Item) : Type 0 where
  xs : List Item
  ys : List Item
  is : filter is_list (items_of f) ≡ xs ++ x ∷ ys
  none : AllFail (is_headed text name) xs
  headed : is_headed text name x ≡ true

first_list : (text name : List ℕ) (f : Forest) (x : Item) → find (is_headed text name) (items_of f) ≡ Some x → IsFirst text name f x
first_list text name Nil x e = absurd (none-some x e)
first_list text name (Word from to rest) x e =
    let r = first_list text name rest x e in record { xs = r.xs; ys = r.ys; is = r.is; none = r.none; headed = r.headed }
first_list text name (Text from to rest) x e =
    let r = first_list text name rest x e in record { xs = r.xs; ys = r.ys; is = r.is; none = r.none; headed = r.headed }
first_list text name (Group from to inner rest) x e =
    pick (record { kind = kinds.List; from = from; to = to; inner = inner }) (is_headed text name (record { kind = kinds.List; from = from; to = to; inner = inner })) refl refl e (first_list text name rest x)
  where
    pick : (g : Item) (b : Bool) → is_headed text name g ≡ b → filter is_list (items_of (Group from to inner rest)) ≡ g ∷ filter is_list (items_of rest)
        → cond b (Some g) (find (is_headed text name) (items_of rest)) ≡ Some x → (find (is_headed text name) (items_of rest) ≡ Some x → IsFirst text name rest x) → IsFirst text name (Group from to inner rest) x
    pick g true h l e more =
        let s = same_Some g x e in
        record { xs = []; ys = filter is_list (items_of rest); is = l ∙ ap (λ z. z ∷ filter is_list (items_of rest)) s; none = tt; headed = ap (is_headed text name) (sym s) ∙ h }
    pick g false h l e more = let r = more e in record { xs = g ∷ r.xs; ys = r.ys; is = l ∙ ap (λ z. g ∷ z) r.is; none = (h, r.none); headed = r.headed }

-- the first list of this head, and that none before it has the head
pub record IsListIn (text name : List ℕ) (at : ℕ) (s : Spelling) (x : Item) : Type 0 where
  pub hole : Hole
  pub white : List ℕ
  pub inner : Spelling
  pub rest : Spelling
  pub flat : IsFlat hole
  pub is : s ≡ plug hole (Nested white inner rest)
  pub from_is : x.from ≡ at + (length (front hole) + length white)
  pub to_is : x.to ≡ x.from + 1 + width inner + 1
  pub inner_is : x.inner ≡ placed (x.from + 1) inner
  pub seen : item_seen text x ≡ list_seen (contents inner)
  pub named : is_named name (contents inner) ≡ true
  pub none : AllFail (heads name) (lists_before hole)

fail_seen : (text name : List ℕ) (xs : List Item) → AllFail (is_headed text name) xs → AllFail (heads name) (map (item_seen text) xs)
fail_seen text name [] h = tt
fail_seen text name (x ∷ xs) h = (sym (heads_seen text name x) ∙ h.0, fail_seen text name xs h.1)

pub found_in : (text name : List ℕ) (at : ℕ) (s : Spelling) (item x : Item) → item.inner ≡ placed at s → forest_shape text item.inner ≡ contents s → list_of text name item ≡ Some x
    → IsListIn text name at s x
found_in text name at s item x i shaped e =
    let f = first_list text name item.inner x e in
    let h : IsListHole at s f.xs x = list_hole s at f.xs f.ys x (ap (λ z. filter is_list (items_of z)) (sym i) ∙ f.is) in
    let c = h.count in
    let p : (map (item_seen text) f.xs ≡ lists_before h.hole) × (item_seen text x ∷ map (item_seen text) f.ys ≡ list_seen (contents h.inner) ∷ lists_in h.rest) =
    same_split (map (item_seen text) f.xs) (item_seen text x ∷ map (item_seen text) f.ys) (lists_before h.hole) (list_seen (contents h.inner) ∷ lists_in h.rest)
    (sym (length-map_is (item_seen text) f.xs) ∙ c)
    (sym (ap (map (item_seen text)) f.is ∙ map_append (item_seen text) f.xs (x ∷ f.ys)) ∙ groups_seen text item ∙ ap (λ z. filter is_group (parts z)) shaped
    ∙ ap lists_in h.is ∙ lists_plug h.hole (Nested h.white h.inner h.rest) h.flat) in
    record {
      hole = h.hole;
      white = h.white;
      inner = h.inner;
      rest = h.rest;
      flat = h.flat;
      is = h.is;
      from_is = h.from_is;
      to_is = h.to_is;
      inner_is = h.inner_is;
      seen = same_head p.1;
      named = ap (heads name) (sym (same_head p.1)) ∙ sym (heads_seen text name x) ∙ f.headed;
      none = subst (AllFail (heads name)) p.0 (fail_seen text name f.xs f.none);
    }

fail_none : (p : ItemSeen → Bool) (xs : List ItemSeen) → find p xs ≡ None → AllFail p xs
fail_none p [] e = tt
fail_none p (x ∷ xs) e = pick (p x) refl e (fail_none p xs)
  where
    pick : (b : Bool) → p x ≡ b → cond b (Some x) (find p xs) ≡ None → (find p xs ≡ None → AllFail p xs) → (p x ≡ false) × AllFail p xs
    pick true h e more = absurd (none-some x (sym e))
    pick false h e more = (h, more e)

-- where there is none, no list has the head
pub none_in : (text name : List ℕ) (s : Spelling) (item : Item) → forest_shape text item.inner ≡ contents s → list_of text name item ≡ None → AllFail (heads name) (lists_in s)
none_in text name s item shaped e =
    fail_none (heads name) (lists_in s)
    (sym (find_lists name (contents s)) ∙ ap (λ z. find (heads name) (parts z)) (sym shaped) ∙ sym (sub_seen text name item) ∙ ap (Rattle.text_shapes.specs.Seen.sight text) e)

-- what stands behind lists that don't pass is found
pub first_there : (p : ItemSeen → Bool) (xs ys : List ItemSeen) (x : ItemSeen) → AllFail p xs → p x ≡ true → find p (xs ++ x ∷ ys) ≡ Some x
first_there p [] ys x f h = ap (λ b. cond b (Some x) (find p ys)) h
first_there p (y ∷ xs) ys x f h = ap (λ b. cond b (Some y) (find p (xs ++ x ∷ ys))) f.0 ∙ first_there p xs ys x f.1 h
