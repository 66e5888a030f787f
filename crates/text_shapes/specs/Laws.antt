-- What a text spells that is put together as one list.
use Rattle.std.specs.Prelude.{◌≡◌, ℕ, true, List, []}
use Rattle.sexpr_text.specs.Items.{Item}
use Rattle.sexpr_text.specs.Trees.{IsRoot}
use Rattle.sexpr_text.specs.declared.NodeKind.TheVariants as kinds
use Rattle.text_shapes.specs.Layouts.{Layout, shape, render, is_good}
use Rattle.text_shapes.specs.Layouts.Layout.{End, Listed}
use Rattle.text_shapes.specs.Seen.{ItemSeen, item_seen}

-- what is item_seen of a list with these items
abbrev pub list_seen : Layout → ItemSeen
list_seen inner = record { kind = kinds.List; text = []; inner = shape inner }

-- the root of a text, and what is item_seen of it
pub record HasRoot (bytes : List ℕ) (inner : Layout) : Type 0 where
  pub root : Item
  pub is_root : IsRoot bytes root
  pub is_seen : item_seen bytes root ≡ list_seen inner

-- a text that is put together as one list, with white space behind it, spells that list and no other contents
abbrev pub LaidLaw : Type 0
LaidLaw =
    (bytes : List ℕ) (inner : Layout) (white : List ℕ) → bytes ≡ render (Listed [] inner (End white)) []
    → is_good 64 (Listed [] inner (End white)) ≡ true → HasRoot bytes inner
