-- The tree of a text, as its nodes, and where its items lie.
use Rattle.std.specs.Prelude.{◌≡◌, ℕ, ◌<◌, ◌≤◌, List, [], ◌∷◌, length}
use Rattle.sexpr_text.specs.Grammar.{Items, Spelt}
use Rattle.sexpr_text.specs.Grammar.Forest.{Nil, Group}
use Rattle.sexpr_text.specs.Items.{Item, forest_of}
use Rattle.sexpr_text.specs.Flat.{Shown, flat}
use Rattle.sexpr_text.specs.declared.NodeKind.TheVariants as kinds

-- this list is what the bytes spell
pub record IsRoot (bytes : List ℕ) (root : Item) : Type 0 where
  pub list : root.kind ≡ kinds.List
  pub spelt : Spelt bytes (Group root.from root.to root.inner Nil)

-- the nodes are those of this root, which the bytes spell
pub record IsTreeAt (bytes : List ℕ) (nodes : List Shown) (root : Item) : Type 0 where
  pub is_root : IsRoot bytes root
  pub same : nodes ≡ flat 0 (forest_of root)

-- the nodes are those of the tree that the bytes spell
pub record IsTreeOf (bytes : List ℕ) (nodes : List Shown) : Type 0 where
  pub root : Item
  pub is_tree : IsTreeAt bytes nodes root

-- The bytes of an item spell that item, with lists at most room deep.
pub record IsSpeltAt (bytes : List ℕ) (item : Item) : Type 0 where
  pub room : ℕ
  pub shallow : room ≤ 64
  pub spelt : Items bytes room item.from item.to (forest_of item)
  pub order : item.from < item.to
  pub within : item.to ≤ length bytes

-- The items lie between these places, in order, none inside another.
abbrev pub AreInOrder : ℕ → ℕ → List Item → Type 0
AreInOrder from to [] = from ≤ to
AreInOrder from to (item ∷ items) = (from ≤ item.from) × (item.from < item.to) × AreInOrder item.to to items
