-- How nodes are kept: each with a range of one common list of child numbers.
use Rattle.std.specs.Prelude.{ℕ, ◌<◌, ◌≤◌, ◌^◌, List, length, map, slice_range, All}
use Rattle.sexpr_text.specs.Flat.{Shown}
use Rattle.sexpr_text.specs.declared.store.Node.{Node}

-- a node with its children, of the common list
abbrev pub shown : List ℕ → Node → Shown
shown numbers n = record { kind = n.kind; from = n.from; to = n.to; children = slice_range numbers n.first_child n.children_end }

-- all nodes with their children
abbrev pub all_shown : List ℕ → List Node → List Shown
all_shown numbers nodes = map (shown numbers) nodes

-- a node's range lies in the common list
pub record IsRange (numbers : List ℕ) (n : Node) : Type 0 where
  pub order : n.first_child ≤ n.children_end
  pub within : n.children_end ≤ length numbers

-- The ranges lie in the common list. All its numbers, and all that wait for their list's end, are numbers of nodes.
pub record IsStored (nodes : List Node) (numbers waiting : List ℕ) : Type 0 where
  pub few : length nodes ≤ 2 ^ 32
  pub ranges : All (IsRange numbers) nodes
  pub below : All (λ id. id < length nodes) numbers
  pub waits : All (λ id. id < length nodes) waiting
