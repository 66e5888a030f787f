-- Words for the tables that the pool keeps.
use Rattle.std.specs.Prelude.{◌≡◌, ℕ, List, [], get_or, Option, Some, None}
use Rattle.std.specs.Arc.{arc_value}
use Rattle.std.specs.declared.sync.Arc.{Arc}
use Rattle.std.specs.List.{All}
use Rattle.board_language.specs.Board.{Board}
use Rattle.pool_rules.specs.declared.Slot.{Slot}
use Rattle.pool_rules.specs.declared.Slot.TheVariants.{Waiting, Finished}
use Rattle.fill_rules.specs.Made.{Made, no_fill}

-- the task waits, and those of the list at its number are finished
pub record IsReadyRow (table : List (List ℕ)) (slots : List Slot) (i : ℕ) : Type 0 where
  pub waiting : get_or slots i Finished ≡ Waiting
  pub done : All (λ (j : ℕ). get_or slots j Finished ≡ Finished) (get_or table i [])

-- what a name stands for before its user picks a board
abbrev pub no_board : Board
no_board =
    record {
      layers = [];
      nets = [];
      tracks = [];
      vias = [];
      pads = [];
      zones = [];
      areas = [];
      edges = [];
      rules = record { floor = 0; edge = 0 };
    }

-- ---- the fills that were handed in, a slot for each task
-- a slot's fill, through its shared pointer
abbrev pub filled : {Z : Type 0} → Option (Arc Made Z) → Option Made
filled None = None
filled (Some fill) = Some (arc_value fill)

-- the slot has a fill
abbrev pub IsFull : Option Made → Type 0
IsFull None = ⊥
IsFull (Some fill) = Unit {0}

-- the fill of a slot; that past the last task where it has none
abbrev pub made_in_slot : Option Made → Made
made_in_slot None = no_fill
made_in_slot (Some fill) = fill

-- the fill in the task's slot
abbrev pub made_at : List (Option Made) → ℕ → Made
made_at fills i = made_in_slot (get_or fills i None)
