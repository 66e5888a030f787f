-- What holds of the item that a node is, holds of the item that is built from the node.
use Rattle.std.proofs.Common.{◌≡◌, ℕ, zero, suc, ◌<◌, List, [], ◌∷◌, length, get_or, refl, sym, ap, ◌∙◌, arith, Option, Some, None, option_map, find, Bool, false, cond, ◌⊎◌, inl, inr, slice_range, nat_eq}
use Rattle.std.specs.Str.{bytes_eq}
use Rattle.std.specs.List.{starts_with}
use Rattle.sexpr_text.specs.Items.{Item, children_of, content_of, head_of, is_headed, is_name}
use Rattle.sexpr_text.specs.declared.Span.{Span}
use Rattle.sexpr_text.specs.declared.NodeKind.{NodeKind}
use Rattle.sexpr_text.specs.declared.NodeKind.TheVariants as kinds
use Rattle.board_text.specs.Lists.{is_list_kind}
use Rattle.board_text.specs.Fields.{list_of, text_of, text_from, head_begins}
use Rattle.sexpr_text.specs.Flat.{Shown, IsNode, AreNodes, IsNodeOrNone}
use Rattle.sexpr_text.specs.Parts.{IsPart, part_of, item_at}
use Rattle.sexpr_text.proofs.ItemAt.{item_is, is_node_at}

pub at_part : {P : Item → Type 0} (bytes : List ℕ) (nodes : List Shown) (id : ℕ) → IsPart bytes nodes id → ((item : Item) → IsNode nodes id item → P item) → P (item_at nodes id)
at_part {P} bytes nodes id p h = h (item_at nodes id) (is_node_at bytes nodes id p.tree p.below)

count_is : (nodes : List Shown) (ids : List ℕ) (items : List Item) → AreNodes nodes ids items → length ids ≡ length items
count_is nodes [] [] h = refl
count_is nodes [] (item ∷ items) h = absurd h
count_is nodes (id ∷ ids) [] h = absurd h
count_is nodes (id ∷ ids) (item ∷ items) h = ap suc (count_is nodes ids items h.1)

pub children_count : (bytes : List ℕ) (nodes : List Shown) (id : ℕ) (ids : List ℕ) → IsPart bytes nodes id → ((item : Item) → IsNode nodes id item → AreNodes nodes ids (children_of item))
    → length ids ≡ length (children_of (item_at nodes id))
children_count bytes nodes id ids p h = count_is nodes ids (children_of (item_at nodes id)) (at_part {P = λ i. AreNodes nodes ids (children_of i)} bytes nodes id p h)

nth : (nodes : List Shown) (ids : List ℕ) (items : List Item) (k : ℕ) (d : Item) → AreNodes nodes ids items → k < length ids → item_at nodes (get_or ids k 0) ≡ get_or items k d
nth nodes [] items k d h l = absurd (omega (arith, l))
nth nodes (id ∷ ids) [] k d h l = absurd h
nth nodes (id ∷ ids) (item ∷ items) zero d h l = item_is nodes id item h.0
nth nodes (id ∷ ids) (item ∷ items) (suc k) d h l = nth nodes ids items k d h.1 (omega (arith, l))

pub child_is : (bytes : List ℕ) (nodes : List Shown) (id : ℕ) (ids : List ℕ) (k : ℕ) (d : Item) → IsPart bytes nodes id → ((item : Item) → IsNode nodes id item → AreNodes nodes ids (children_of item))
    → k < length ids → item_at nodes (get_or ids k 0) ≡ get_or (children_of (item_at nodes id)) k d
child_is bytes nodes id ids k d p h l = nth nodes ids (children_of (item_at nodes id)) k d (at_part {P = λ i. AreNodes nodes ids (children_of i)} bytes nodes id p h) l

pub found_is : (bytes : List ℕ) (nodes : List Shown) (found : Option ℕ) (item : Option Item) → IsNodeOrNone nodes found item
    → option_map (λ n. part_of bytes (item_at nodes n)) found ≡ option_map (part_of bytes) item
found_is bytes nodes None None h = refl
found_is bytes nodes None (Some item) h = absurd h
found_is bytes nodes (Some id) None h = absurd h
found_is bytes nodes (Some id) (Some item) h = ap (λ i. Some (part_of bytes i)) (item_is nodes id item h)

-- a list that is found, as the part of its node
pub list_is : (bytes name : List ℕ) (nodes : List Shown) (id : ℕ) (found : Option ℕ) → IsPart bytes nodes id
    → ((item : Item) → IsNode nodes id item → IsNodeOrNone nodes found (find (is_headed bytes name) (children_of item)))
    → option_map (λ n. part_of bytes (item_at nodes n)) found ≡ option_map (part_of bytes) (list_of bytes name (item_at nodes id))
list_is bytes name nodes id found p h = found_is bytes nodes found (list_of bytes name (item_at nodes id)) (h (item_at nodes id) (is_node_at bytes nodes id p.tree p.below))

pub list_some : (bytes name : List ℕ) (nodes : List Shown) (id n : ℕ) (found : Option ℕ) → IsPart bytes nodes id → found ≡ Some n
    → ((item : Item) → IsNode nodes id item → IsNodeOrNone nodes found (find (is_headed bytes name) (children_of item)))
    → Some (part_of bytes (item_at nodes n)) ≡ option_map (part_of bytes) (list_of bytes name (item_at nodes id))
list_some bytes name nodes id n found p e h = ap (option_map (λ m. part_of bytes (item_at nodes m))) (sym e) ∙ list_is bytes name nodes id found p h

pub list_none : (bytes name : List ℕ) (nodes : List Shown) (id : ℕ) (found : Option ℕ) → IsPart bytes nodes id → found ≡ None
    → ((item : Item) → IsNode nodes id item → IsNodeOrNone nodes found (find (is_headed bytes name) (children_of item)))
    → None ≡ option_map (part_of bytes) (list_of bytes name (item_at nodes id))
list_none bytes name nodes id found p e h = ap (option_map (λ m. part_of bytes (item_at nodes m))) (sym e) ∙ list_is bytes name nodes id found p h

-- the head of a list, and what it says of the list's name
pub head_some : (bytes name : List ℕ) (nodes : List Shown) (id : ℕ) (found : Option Span) (head : Span) (same : Bool) → IsPart bytes nodes id → found ≡ Some head
    → ((item : Item) → IsNode nodes id item → found ≡ head_of item) → same ≡ bytes_eq (slice_range bytes head.from head.to) name → same ≡ is_headed bytes name (item_at nodes id)
head_some bytes name nodes id found head same p e h s =
    s ∙ ap (is_name bytes name) (sym e ∙ h (item_at nodes id) (is_node_at bytes nodes id p.tree p.below))

pub head_none : (bytes name : List ℕ) (nodes : List Shown) (id : ℕ) (found : Option Span) → IsPart bytes nodes id → found ≡ None
    → ((item : Item) → IsNode nodes id item → found ≡ head_of item) → false ≡ is_headed bytes name (item_at nodes id)
head_none bytes name nodes id found p e h = ap (is_name bytes name) (sym e ∙ h (item_at nodes id) (is_node_at bytes nodes id p.tree p.below))

-- a list has no content, and a leaf has one
list_text : (bytes : List ℕ) (item : Item) (kind : NodeKind) → kind ≡ kinds.List → kind ≡ item.kind → None ≡ text_of bytes item
list_text bytes item kind e k = ap (λ x. cond (is_list_kind x) None (Some (content_of bytes item))) (sym e ∙ k)

pub no_text : (bytes : List ℕ) (nodes : List Shown) (id : ℕ) (kind : NodeKind) → IsPart bytes nodes id → kind ≡ kinds.List → ((item : Item) → IsNode nodes id item → kind ≡ item.kind)
    → None ≡ text_of bytes (item_at nodes id)
no_text bytes nodes id kind p e h = list_text bytes (item_at nodes id) kind e (h (item_at nodes id) (is_node_at bytes nodes id p.tree p.below))

leaf_kind : (kind : NodeKind) → (kind ≡ kinds.Word) ⊎ (kind ≡ kinds.Text) → is_list_kind kind ≡ false
leaf_kind kind (inl e) = ap is_list_kind e
leaf_kind kind (inr e) = ap is_list_kind e

pub some_text : (bytes : List ℕ) (nodes : List Shown) (id : ℕ) (kind : NodeKind) (text : List ℕ) → IsPart bytes nodes id → (kind ≡ kinds.Word) ⊎ (kind ≡ kinds.Text)
    → ((item : Item) → IsNode nodes id item → kind ≡ item.kind) → ((item : Item) → IsNode nodes id item → text ≡ content_of bytes item) → Some text ≡ text_of bytes (item_at nodes id)
some_text bytes nodes id kind text p e h t =
    let i : Item = item_at nodes id in
    let n : IsNode nodes id i = is_node_at bytes nodes id p.tree p.below in
    ap (λ x. Some x) (t i n) ∙ ap (λ b. cond b None (Some (content_of bytes i))) (sym (leaf_kind kind e) ∙ ap is_list_kind (h i n))

pub begins_some : (bytes front : List ℕ) (nodes : List Shown) (id : ℕ) (found : Option Span) (head : Span) (same : Bool) → IsPart bytes nodes id → found ≡ Some head
    → ((item : Item) → IsNode nodes id item → found ≡ head_of item) → same ≡ starts_with nat_eq (slice_range bytes head.from head.to) front → same ≡ head_begins bytes front (item_at nodes id)
begins_some bytes front nodes id found head same p e h s =
    s ∙ ap (λ o. starts_with nat_eq (text_from bytes o) front) (sym e ∙ h (item_at nodes id) (is_node_at bytes nodes id p.tree p.below))

pub begins_none : (bytes front : List ℕ) (nodes : List Shown) (id : ℕ) (found : Option Span) (same : Bool) → IsPart bytes nodes id → found ≡ None
    → ((item : Item) → IsNode nodes id item → found ≡ head_of item) → same ≡ starts_with nat_eq [] front → same ≡ head_begins bytes front (item_at nodes id)
begins_none bytes front nodes id found same p e h s =
    s ∙ ap (λ o. starts_with nat_eq (text_from bytes o) front) (sym e ∙ h (item_at nodes id) (is_node_at bytes nodes id p.tree p.below))
