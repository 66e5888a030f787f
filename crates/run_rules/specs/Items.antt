-- How many vias and tracks a board has that is made of a seed.
use Rattle.std.specs.Prelude.{ℕ, zero, suc}
use Rattle.board_gen.specs.Generated.{state_after, number_after_cells}

-- so many, with those of so many rows of cells more, where the draws stand at this state
unfoldable pub items_after : ℕ → ℕ → ℕ → ℕ → ℕ
items_after size state items zero = items
items_after size state items (suc rows) = items_after size (state_after state size) (number_after_cells state items size) rows

-- so many has the whole board, of as many rows as its size
abbrev pub items_in : ℕ → ℕ → ℕ
items_in seed size = items_after size seed 0 size
