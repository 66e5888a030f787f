-- The item that is built from the nodes is the item that the node is.
use Rattle.std.proofs.Common.{◌≡◌, ℕ, zero, suc, ◌+◌, ◌<◌, ◌≤◌, List, [], ◌∷◌, length, map, refl, sym, ap, ◌∙◌, subst, arith}
use Rattle.sexpr_text.specs.Grammar.{Forest}
use Rattle.sexpr_text.specs.Grammar.Forest.{Nil, Word, Text, Group}
use Rattle.sexpr_text.specs.Items.{Item, IsLeafKind, items_of, alone}
use Rattle.sexpr_text.specs.Flat.{Shown, count, flat, numbers, IsNode, AreNodes}
use Rattle.sexpr_text.specs.Trees.{IsTreeOf}
use Rattle.std.proofs.lemmas.List.{append-nil}
use Rattle.sexpr_text.proofs.Steps.{length-flat}
use Rattle.sexpr_text.proofs.Nodes.{Found, found, lie_nodes, node_at, node_below, children_nodes}
use Rattle.sexpr_text.specs.declared.NodeKind.{NodeKind}
use Rattle.sexpr_text.specs.declared.NodeKind.TheVariants as kinds
use Rattle.sexpr_text.specs.Parts.{forest_at, item_at}

-- items whose nodes are these are built from them
built : (n : ℕ) (nodes : List Shown) (ids : List ℕ) (f : Forest) → count f ≤ n → AreNodes nodes ids (items_of f) → forest_at n nodes ids ≡ f
unfolding forest_at
built zero nodes ids Nil le h = refl
built zero nodes ids (Word from to rest) le h = absurd (omega arith)
built zero nodes ids (Text from to rest) le h = absurd (omega arith)
built zero nodes ids (Group from to inner rest) le h = absurd (omega arith)
built (suc n) nodes [] Nil le h = refl
built (suc n) nodes (id ∷ ids) Nil le h = absurd h
built (suc n) nodes [] (Word from to rest) le h = absurd h
built (suc n) nodes [] (Text from to rest) le h = absurd h
built (suc n) nodes [] (Group from to inner rest) le h = absurd h
built (suc n) nodes (id ∷ ids) (Word from to rest) le h =
    rw (node_at nodes id _ h.0) (ap (λ f. Word from to f) (built n nodes ids rest (omega arith) h.1))
built (suc n) nodes (id ∷ ids) (Text from to rest) le h =
    rw (node_at nodes id _ h.0) (ap (λ f. Text from to f) (built n nodes ids rest (omega arith) h.1))
built (suc n) nodes (id ∷ ids) (Group from to inner rest) le h =
    let i : forest_at n nodes (numbers (length h.0.before) inner) ≡ inner = built n nodes (numbers (length h.0.before) inner) inner (omega arith) (children_nodes nodes id _ h.0) in
    let r : forest_at n nodes ids ≡ rest = built n nodes ids rest (omega arith) h.1 in
    rw (node_at nodes id _ h.0) (ap (λ f. Group from to f (forest_at n nodes ids)) i ∙ ap (λ f. Group from to inner f) r)

count_alone : (k : NodeKind) (from to : ℕ) (inner : Forest) → (IsLeafKind k → inner ≡ Nil) → count (alone k from to inner) ≡ count inner + 1
count_alone kinds.List from to inner h = omega arith
count_alone kinds.Word from to inner h = rw (h tt) refl
count_alone kinds.Text from to inner h = rw (h tt) refl

inner_count : (nodes : List Shown) (id : ℕ) (item : Item) → IsNode nodes id item → count item.inner ≤ length nodes
inner_count nodes id item h = below (length h.before) (count item.inner) (node_below nodes id item h) (h.last ∙ ap (λ c. length h.before + c) (count_alone item.kind item.from item.to item.inner h.leaf))
  where
    below : (b c : ℕ) → id < length nodes → id + 1 ≡ b + (c + 1) → c ≤ length nodes
    below b c l e = omega arith

pub item_is : (nodes : List Shown) (id : ℕ) (item : Item) → IsNode nodes id item → item_at nodes id ≡ item
unfolding item_at
item_is nodes id item h =
    let i : forest_at (length nodes) nodes (numbers (length h.before) item.inner) ≡ item.inner =
    built (length nodes) nodes (numbers (length h.before) item.inner) item.inner (inner_count nodes id item h) (children_nodes nodes id item h) in
    rw (node_at nodes id item h) (ap (λ f. made item.kind item.from item.to f) i)
  where
    made : NodeKind → ℕ → ℕ → Forest → Item
    made x y z w = record { kind = x; from = y; to = z; inner = w }

-- a forest comes back from the numbers of its items and their nodes
pub given_back : (f : Forest) → forest_at (length (flat 0 f)) (flat 0 f) (numbers 0 f) ≡ f
given_back f =
    built (length (flat 0 f)) (flat 0 f) (numbers 0 f) f (omega (arith, length-flat 0 f))
    (lie_nodes (flat 0 f) 0 f (record { before = []; after = []; whole = sym (append-nil (flat 0 f)); start = refl }))

-- each node of a tree is the item that is built from it
pub is_node_at : (bytes : List ℕ) (nodes : List Shown) (id : ℕ) → IsTreeOf bytes nodes → id < length nodes → IsNode nodes id (item_at nodes id)
is_node_at bytes nodes id t h =
    let f : Found bytes nodes id = found bytes nodes id t h in
    subst (λ i. IsNode nodes id i) (sym (item_is nodes id f.item f.is_node)) f.is_node

-- the items of the nodes are those that are built from them
pub items_are : (nodes : List Shown) (ids : List ℕ) (items : List Item) → AreNodes nodes ids items → map (item_at nodes) ids ≡ items
items_are nodes [] [] h = refl
items_are nodes [] (item ∷ items) h = absurd h
items_are nodes (id ∷ ids) [] h = absurd h
items_are nodes (id ∷ ids) (item ∷ items) h =
    ap (λ i. i ∷ map (item_at nodes) ids) (item_is nodes id item h.0) ∙ ap (λ is. item ∷ is) (items_are nodes ids items h.1)
