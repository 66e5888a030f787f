-- What holds of the fields of a pool.
use Rattle.std.specs.Prelude.{◌≡◌, ℕ, ◌+◌, ◌^◌, ◌<◌, ◌≤◌, Bool, List, [], length, get_or, Option, Some, None}
use Rattle.board_language.specs.Board.{Board}
use Rattle.fill_rules.specs.Tasks.{Task, ranked}
use Rattle.pool_rules.specs.declared.PoolEvent.{PoolEvent}
use Rattle.pool_rules.specs.declared.Slot.{Slot}
use Rattle.pool_rules.specs.declared.Slot.TheVariants.{Finished}
use Rattle.pool_rules.specs.Runs.{slot_at}
use Rattle.fill_rules.specs.Made.{Made}
use Rattle.fills.specs.Fills.{IsFillOf}
use Rattle.fill_pool.specs.Runs.{count_of, state_of, IsRunOf}
use Rattle.fill_pool.specs.Inner.Tables.{IsTableOf}

-- the slots are those after the events, which are a lawful run; there is room for every event that may come
pub record IsMachine (b : Board) (slots : List Slot) (table : List (List ℕ)) (events : List PoolEvent) (halted : Bool) (capacity : ℕ) : Type 0 where
  pub table_is : IsTableOf b table
  pub lawful : IsRunOf b events
  pub stands : state_of b events ≡ record { slots = slots; backed = halted }
  pub room : count_of b + count_of b ≤ capacity
  pub few : count_of b < 2 ^ 32

-- the slot holds the fill of the task
abbrev pub HasFill : Board → ℕ → Option Made → Type 0
HasFill b i None = ⊥
HasFill b i (Some f) = IsFillOf b i f

-- the slot of each finished task has the task's fill; there is room for the list of all
pub record IsPool (b : Board) (events : List PoolEvent) (tasks : List Task) (fills : List (Option Made)) (all : List Made) (capacity : ℕ) : Type 0 where
  pub ranks : tasks ≡ ranked b
  pub sized : length fills ≡ count_of b
  pub right : (i : ℕ) → slot_at (state_of b events) i ≡ Finished → i < count_of b → HasFill b i (get_or fills i None)
  pub none_yet : all ≡ []
  pub room : count_of b ≤ capacity
