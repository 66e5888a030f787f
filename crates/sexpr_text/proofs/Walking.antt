-- Going over the children of a list, one after another: what a loop over their numbers keeps.
use Rattle.std.proofs.Common.{◌≡◌, ℕ, ◌+◌, ◌<◌, ◌≤◌, List, [], ◌∷◌, length, drop, get_or, refl, sym, subst, arith, drop-cons, add-one, Option, Some, None, slice_get, IfSome}
use Rattle.std.proofs.lemmas.List.{drop_all}
use Rattle.sexpr_text.specs.Items.{Item, IsLeaf, IsLeafKind}
use Rattle.sexpr_text.specs.Flat.{Shown, IsNode, AreNodes, IsNodeOrNone}
use Rattle.sexpr_text.proofs.Nodes.{node_at}

pub same_length : (nodes : List Shown) (ids : List ℕ) (items : List Item) → AreNodes nodes ids items → length ids ≡ length items
same_length nodes [] [] h = refl
same_length nodes [] (item ∷ items) h = absurd h
same_length nodes (id ∷ ids) [] h = absurd h
same_length nodes (id ∷ ids) (item ∷ items) h = omega (arith, same_length nodes ids items h.1)

-- the first of the items that are left, and the others
pub record FirstLeft (nodes : List Shown) (ids : List ℕ) (i : ℕ) (items : List Item) : Type 0 where
  pub item : Item
  pub rest : List Item
  pub split : items ≡ item ∷ rest
  pub is_node : IsNode nodes (get_or ids i 0) item
  pub others : AreNodes nodes (drop (i + 1) ids) rest

pub first_left : (nodes : List Shown) (ids : List ℕ) (i : ℕ) (items : List Item) → i < length ids → AreNodes nodes (drop i ids) items → FirstLeft nodes ids i items
first_left nodes ids i items h a = on items (subst (λ xs. AreNodes nodes xs items) at_place a)
  where
    at_place : drop i ids ≡ get_or ids i 0 ∷ drop (i + 1) ids
    at_place = rw add-one (drop-cons ids i 0 h)

    on : (items : List Item) → AreNodes nodes (get_or ids i 0 ∷ drop (i + 1) ids) items → FirstLeft nodes ids i items
    on [] a = absurd a
    on (item ∷ rest) a = record { item = item; rest = rest; split = refl; is_node = a.0; others = a.1 }

pub none_left : (nodes : List Shown) (ids : List ℕ) (i : ℕ) (items : List Item) → length ids ≤ i → AreNodes nodes (drop i ids) items → items ≡ []
none_left nodes ids i items h a = on items (subst (λ xs. AreNodes nodes xs items) (drop_all i ids h) a)
  where
    on : (items : List Item) → AreNodes nodes [] items → items ≡ []
    on [] a = refl
    on (item ∷ items) a = absurd a

-- a node that was found, and one that wasn't
pub record FoundItem (nodes : List Shown) (id : ℕ) (found : Option Item) : Type 0 where
  pub item : Item
  pub is_found : found ≡ Some item
  pub is_node : IsNode nodes id item

pub found_item : (nodes : List Shown) (id : ℕ) (found : Option Item) → IsNodeOrNone nodes (Some id) found → FoundItem nodes id found
found_item nodes id None h = absurd h
found_item nodes id (Some item) h = record { item = item; is_found = refl; is_node = h }

pub no_item : (nodes : List Shown) (found : Option Item) → IsNodeOrNone nodes None found → found ≡ None
no_item nodes None h = refl
no_item nodes (Some item) h = absurd h

-- the node of a leaf is a leaf
pub leaf_node : (nodes : List Shown) (id : ℕ) (item : Item) → IsNode nodes id item → IsLeaf item → IfSome (slice_get nodes id) (λ n. IsLeafKind n.kind)
leaf_node nodes id item h l = subst (λ o. IfSome o (λ n. IsLeafKind n.kind)) (sym (node_at nodes id item h)) l
