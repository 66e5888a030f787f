-- What the reader has read of a list.
use Rattle.std.specs.Prelude.{◌≡◌, ℕ, ◌<◌, List, ◌++◌, length, slice_index}
use Rattle.sexpr_text.specs.Grammar.{Forest, Items}
use Rattle.sexpr_text.specs.Grammar.Forest.{Nil, Group}
use Rattle.sexpr_text.specs.Flat.{Shown, flat, numbers}
use Rattle.sexpr_text.specs.Inner.Built.{Built}

-- a list or the text ends here
abbrev pub Stops : List ℕ → ℕ → Type 0
Stops bytes end = end < length bytes → slice_index bytes end ≡ 41

-- the items up to a place were read, and their nodes stand behind the old ones
pub record Reads (bytes : List ℕ) (room at end : ℕ) (old new : List Shown) (ids : List ℕ) : Type 0 where
  pub tree : Forest
  pub items : Items bytes room at end tree
  pub nodes : new ≡ old ++ flat (length old) tree
  pub numbered : ids ≡ numbers (length old) tree

-- and their numbers wait behind those that waited before
pub record Takes (bytes : List ℕ) (room at end : ℕ) (old new : Built) : Type 0 where
  pub ids : List ℕ
  pub reads : Reads bytes room at end old.nodes new.nodes ids
  pub waiting : new.waiting ≡ old.waiting ++ ids

-- one list was read
pub record TakesList (bytes : List ℕ) (room at end : ℕ) (old new : Built) : Type 0 where
  pub inner : Forest
  pub items : Items bytes room at end (Group at end inner Nil)
  pub nodes : new.nodes ≡ old.nodes ++ flat (length old.nodes) (Group at end inner Nil)

-- however the items from here on up to the list's end are read, those up to that place come first
abbrev pub Through : List ℕ → ℕ → ℕ → ℕ → Type 0
Through bytes room at to = (tree : Forest) (end : ℕ) → Items bytes room at end tree → Stops bytes end → (rest : Forest) × Items bytes room to end rest

-- no items stand between here and an end of the list
abbrev pub NoItems : List ℕ → ℕ → ℕ → Type 0
NoItems bytes room at = (tree : Forest) (end : ℕ) → Items bytes room at end tree → Stops bytes end → ⊥
