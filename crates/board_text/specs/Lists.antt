-- The lists inside an item of a board by their heads, and the items behind its head.
use Rattle.std.specs.Prelude.{ℕ, Bool, true, false, List, filter, drop}
use Rattle.sexpr_text.specs.Items.{Item, children_of, is_headed}
use Rattle.sexpr_text.specs.declared.NodeKind.{NodeKind}
use Rattle.sexpr_text.specs.declared.NodeKind.TheVariants as kinds

-- a node of this kind is a list
abbrev pub is_list_kind : NodeKind → Bool
is_list_kind kinds.List = true
is_list_kind kinds.Word = false
is_list_kind kinds.Text = false

-- a node of this kind is a string
abbrev pub is_string_kind : NodeKind → Bool
is_string_kind kinds.List = false
is_string_kind kinds.Word = false
is_string_kind kinds.Text = true

-- the item is a list
abbrev pub is_list : Item → Bool
is_list item = is_list_kind item.kind

-- the item is a string between quotes
abbrev pub is_string : Item → Bool
is_string item = is_string_kind item.kind

-- the child lists of an item, in order
abbrev pub lists_of : Item → List Item
lists_of item = filter is_list (children_of item)

-- the child lists with this head, in order
abbrev pub headed : List ℕ → List ℕ → Item → List Item
headed bytes name item = filter (is_headed bytes name) (children_of item)

-- the items behind the first one, which is the head
abbrev pub behind_head : Item → List Item
behind_head item = drop 1 (children_of item)
