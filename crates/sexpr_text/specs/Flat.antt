-- A tree as a flat list of its nodes. Each list stands behind its items, so that the root is the last node.
--
--     (a (b))      nodes: 0 a, 1 b, 2 (b) with child 1, 3 the root with children 0 and 2
use Rattle.std.specs.Prelude.{◌≡◌, ℕ, ◌+◌, List, [], ◌∷◌, ◌++◌, length, Option, Some, None}
use Rattle.sexpr_text.specs.Grammar.{Forest}
use Rattle.sexpr_text.specs.Grammar.Forest.{Nil, Word, Text, Group}
use Rattle.sexpr_text.specs.Items.{Item, forest_of, IsLeaf}
use Rattle.sexpr_text.specs.declared.NodeKind.{NodeKind}
use Rattle.sexpr_text.specs.declared.NodeKind.TheVariants as kinds

-- A node: what it is, its places, and the numbers of its children.
pub record Shown : Type 0 where
  pub kind : NodeKind
  pub from : ℕ
  pub to : ℕ
  pub children : List ℕ

-- how many nodes some items have
abbrev pub count : Forest → ℕ
count Nil = 0
count (Word from to rest) = 1 + count rest
count (Text from to rest) = 1 + count rest
count (Group from to inner rest) = count inner + 1 + count rest

-- the numbers of the items, where their nodes begin at the number n
abbrev pub numbers : ℕ → Forest → List ℕ
numbers n Nil = []
numbers n (Word from to rest) = n ∷ numbers (n + 1) rest
numbers n (Text from to rest) = n ∷ numbers (n + 1) rest
numbers n (Group from to inner rest) = (n + count inner) ∷ numbers (n + count inner + 1) rest

-- their nodes
abbrev pub flat : ℕ → Forest → List Shown
flat n Nil = []
flat n (Word from to rest) = record { kind = kinds.Word; from = from; to = to; children = [] } ∷ flat (n + 1) rest
flat n (Text from to rest) = record { kind = kinds.Text; from = from; to = to; children = [] } ∷ flat (n + 1) rest
flat n (Group from to inner rest) =
    flat n inner ++ record { kind = kinds.List; from = from; to = to; children = numbers n inner } ∷ flat (n + count inner + 1) rest

-- The node of this number is this item: somewhere stand the nodes of the item, the last of them at that number.
pub record IsNode (nodes : List Shown) (id : ℕ) (item : Item) : Type 0 where
  pub before : List Shown
  pub after : List Shown
  pub whole : nodes ≡ before ++ (flat (length before) (forest_of item) ++ after)
  pub last : id + 1 ≡ length before + count (forest_of item)
  pub leaf : IsLeaf item → item.inner ≡ Nil

-- The nodes of these numbers are these items, one by one.
abbrev pub AreNodes : List Shown → List ℕ → List Item → Type 0
AreNodes nodes [] [] = Unit {0}
AreNodes nodes (id ∷ ids) (item ∷ items) = IsNode nodes id item × AreNodes nodes ids items
AreNodes nodes ids items = ⊥

-- The node is the item, where there is one, and there is none where there is no item.
abbrev pub IsNodeOrNone : List Shown → Option ℕ → Option Item → Type 0
IsNodeOrNone nodes None None = Unit {0}
IsNodeOrNone nodes (Some id) (Some item) = IsNode nodes id item
IsNodeOrNone nodes id item = ⊥
