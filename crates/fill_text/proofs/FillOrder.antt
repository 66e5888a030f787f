-- The fills of a board stand in its text in the order in which they are told.
use Rattle.std.proofs.Common.{◌≡◌, inl, inr, subst, sym, ℕ, ◌+◌, ◌-◌, ◌<◌, ◌≤◌, arith, Bool, true, false, cond, List, [], ◌∷◌, ◌++◌, filter}
use Rattle.std.specs.List.{flat_map}
use Rattle.classes.specs.Classes.{IsOneOf}
use Rattle.sexpr_text.specs.Grammar.{Forest, Items}
use Rattle.sexpr_text.specs.Grammar.Forest.{Nil, Word, Text, Group}
use Rattle.sexpr_text.specs.Items.{Item, items_of, children_of}
use Rattle.sexpr_text.specs.Trees.{IsRoot, AreInOrder}
use Rattle.sexpr_text.specs.declared.NodeKind.TheVariants as kinds
use Rattle.board_text.specs.Lists.{is_list}
use Rattle.board_text.specs.Items.{context_of}
use Rattle.fill_text.specs.FillLists.{is_bad, is_copper_zone, names_of_zone, zones_in, bad_fills}
use Rattle.fill_text.specs.ReadLaws.{LeastPlaceLaw}

-- ---- items in order

weaken : (low at end : ℕ) (items : List Item) → low ≤ at → AreInOrder at end items → AreInOrder low end items
weaken low at end [] l h = omega (arith, l, h)
weaken low at end (i ∷ items) l h = let f = h.0 in (omega (arith, l, f), h.1, h.2)

keep : (b : Bool) (at end : ℕ) (i : Item) (items : List Item) → at ≤ i.from → i.from < i.to → AreInOrder i.to end items → AreInOrder at end (cond b (i ∷ items) items)
keep true at end i items l m h = (l, m, h)
keep false at end i items l m h = weaken at i.to end items (omega (arith, l, m)) h

joined : (at mid end : ℕ) (items others : List Item) → AreInOrder at mid items → AreInOrder mid end others → AreInOrder at end (items ++ others)
joined at mid end [] others h g = weaken at mid end others h g
joined at mid end (i ∷ items) others h g = (h.0, h.1, joined i.to mid end items others h.2 g)

-- none of them begins before the first place
behind : (at end : ℕ) (items : List Item) (i : Item) → AreInOrder at end items → IsOneOf i items → at ≤ i.from
unfolding IsOneOf
behind at end [] i h m = absurd m
behind at end (j ∷ items) i h (inl e) = subst (λ (k : Item). at ≤ k.from) (sym e) h.0
behind at end (j ∷ items) i h (inr m) = let n = behind j.to end items i h.2 m in let a = h.0 in let b = h.1 in omega (arith, n, a, b)

-- ---- the items of a text

chosen : (p : Item → Bool) (bytes : List ℕ) (room at end : ℕ) (f : Forest) → Items bytes room at end f → AreInOrder at end (filter p (items_of f))
chosen p bytes room at end Nil i = i.order
chosen p bytes room at end (Word from to rest) i =
    let item : Item = record { kind = kinds.Word; from = from; to = to; inner = Nil } in
    keep (p item) at end item (filter p (items_of rest)) i.0.order i.1.order (chosen p bytes room to end rest i.2)
chosen p bytes room at end (Text from to rest) i =
    let item : Item = record { kind = kinds.Text; from = from; to = to; inner = Nil } in
    let o = i.1.order in
    keep (p item) at end item (filter p (items_of rest)) i.0.order (omega (arith, o)) (chosen p bytes room to end rest i.2)
chosen p bytes room at end (Group from to inner rest) i =
    let item : Item = record { kind = kinds.List; from = from; to = to; inner = inner } in
    let o = i.1.order in
    keep (p item) at end item (filter p (items_of rest)) i.0.order (omega (arith, o)) (chosen p bytes room to end rest i.3)

-- those of the lists, list by list
module _ (p : Item → Item → Bool) (q : Item → Bool) (bytes : List ℕ) where
  abbrev inside : Item → List Item
  inside list = filter (p list) (children_of list)

  all_inside : (room at end : ℕ) (f : Forest) → Items bytes room at end f → AreInOrder at end (flat_map inside (filter q (filter is_list (items_of f))))
  all_inside room at end Nil i = i.order
  all_inside room at end (Word from to rest) i =
      let a = i.0.order in let b = i.1.order in weaken at to end (flat_map inside (filter q (filter is_list (items_of rest)))) (omega (arith, a, b)) (all_inside room to end rest i.2)
  all_inside room at end (Text from to rest) i =
      let a = i.0.order in let b = i.1.order in weaken at to end (flat_map inside (filter q (filter is_list (items_of rest)))) (omega (arith, a, b)) (all_inside room to end rest i.2)
  all_inside room at end (Group from to inner rest) i =
      by_test (q (record { kind = kinds.List; from = from; to = to; inner = inner })) (all_inside room to end rest i.3)
    where
      more : List Item
      more = filter q (filter is_list (items_of rest))

      by_test : (b : Bool) → AreInOrder to end (flat_map inside more) → AreInOrder at end (flat_map inside (cond b (record { kind = kinds.List; from = from; to = to; inner = inner } ∷ more) more))
      by_test true h =
          let list : Item = record { kind = kinds.List; from = from; to = to; inner = inner } in
          let a = i.0.order in
          let b = i.1.order in
          joined at (to - 1) end (inside list) (flat_map inside more)
          (weaken at (from + 1) (to - 1) (inside list) (omega (arith, a)) (chosen (p list) bytes (room - 1) (from + 1) (to - 1) inner i.2))
          (weaken (to - 1) to end (flat_map inside more) (omega (arith, b)) h)
      by_test false h = let a = i.0.order in let b = i.1.order in weaken at to end (flat_map inside more) (omega (arith, a, b)) h

-- ---- the fills that can't be read

in_order : (bytes : List ℕ) (root : Item) → IsRoot bytes root → AreInOrder (root.from + 1) (root.to - 1) (bad_fills bytes root)
unfolding bad_fills zones_in context_of
in_order bytes root r =
    all_inside (λ zone. is_bad bytes (names_of_zone (context_of bytes root) zone)) (is_copper_zone (context_of bytes root)) bytes 63 (root.from + 1) (root.to - 1) root.inner r.spelt.items.2

first_least : (at from end : ℕ) (bad : List Item) (first : Item) (later : List Item) → bad ≡ first ∷ later → at ≡ first.from → AreInOrder from end bad → (fill : Item) → IsOneOf fill bad → at ≤ fill.from
first_least at from end bad first later e s h fill m =
    let g : AreInOrder from end (first ∷ later) = subst (AreInOrder from end) e h in
    let n : first.from ≤ fill.from = behind first.from end (first ∷ later) fill (omega arith, g.1, g.2) (subst (IsOneOf fill) e m) in
    omega (arith, s, n)

pub least_place : LeastPlaceLaw
least_place bytes root at r b fill m = first_least at (root.from + 1) (root.to - 1) (bad_fills bytes root) b.fill b.later b.first b.stands (in_order bytes root r) fill m
