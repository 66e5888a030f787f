-- The item that a node is, built from the nodes themselves, so that what a reader answers can be said as an equation.
use Rattle.std.specs.Prelude.{ℕ, zero, suc, ◌<◌, List, [], ◌∷◌, length, Option, Some, None, slice_get}
use Rattle.sexpr_text.specs.Grammar.{Forest}
use Rattle.sexpr_text.specs.Grammar.Forest.{Nil, Word, Text, Group}
use Rattle.sexpr_text.specs.Items.{Item}
use Rattle.sexpr_text.specs.Flat.{Shown}
use Rattle.sexpr_text.specs.Trees.{IsTreeOf}
use Rattle.sexpr_text.specs.declared.NodeKind.{NodeKind}
use Rattle.sexpr_text.specs.declared.NodeKind.TheVariants as kinds

-- an item in front of others
abbrev pub put_part : NodeKind → ℕ → ℕ → Forest → Forest → Forest
put_part kinds.List from to inner rest = Group from to inner rest
put_part kinds.Word from to inner rest = Word from to rest
put_part kinds.Text from to inner rest = Text from to rest

-- the numbers of a node's children; none where there is no node
abbrev pub children_in : Option Shown → List ℕ
children_in None = []
children_in (Some node) = node.children

-- a node's item in front of others; nothing where there is no node
abbrev pub put_node : Option Shown → Forest → Forest → Forest
put_node None inner rest = Nil
put_node (Some node) inner rest = put_part node.kind node.from node.to inner rest

-- the items of these numbers, with at most so many nodes in all
unfoldable pub forest_at : ℕ → List Shown → List ℕ → Forest
forest_at zero nodes ids = Nil
forest_at (suc n) nodes [] = Nil
forest_at (suc n) nodes (id ∷ ids) = put_node (slice_get nodes id) (forest_at n nodes (children_in (slice_get nodes id))) (forest_at n nodes ids)

-- a node's item; an empty list where there is no node
abbrev pub item_of : Option Shown → Forest → Item
item_of None inner = record { kind = kinds.List; from = 0; to = 0; inner = Nil }
item_of (Some node) inner = record { kind = node.kind; from = node.from; to = node.to; inner = inner }

-- the item of this number
unfoldable pub item_at : List Shown → ℕ → Item
item_at nodes id = item_of (slice_get nodes id) (forest_at (length nodes) nodes (children_in (slice_get nodes id)))

-- an item of a text, with the bytes of the text
pub record Part : Type 0 where
  pub bytes : List ℕ
  pub item : Item

-- an item of a text, with the text's bytes
abbrev pub part_of : List ℕ → Item → Part
part_of bytes item = record { bytes = bytes; item = item }

-- the number is that of a node of the text's tree
pub record IsPart (bytes : List ℕ) (nodes : List Shown) (id : ℕ) : Type 0 where
  pub tree : IsTreeOf bytes nodes
  pub below : id < length nodes
