-- What may happen in the pool of one board, in the board's own words: tasks by their rank, and which of them reach which.
use Rattle.std.specs.Prelude.{◌≡◌, ◌↔◌, ℕ, ◌<◌, Bool, true, List, length}
use Rattle.classes.specs.Classes.{IsOneOf}
use Rattle.board_language.specs.Board.{Board}
use Rattle.fill_rules.specs.Tasks.{Task, ranked}
use Rattle.fill_rules.specs.Reach.{IsReaching}
use Rattle.pool_rules.specs.declared.PoolEvent.{PoolEvent}
use Rattle.pool_rules.specs.declared.PoolEvent.TheVariants.{Back}
use Rattle.pool_rules.specs.declared.Slot.TheVariants.{Waiting, Held, Finished}
use Rattle.pool_rules.specs.Runs.{PoolState, slot_at, opening, run, IsLawful}

-- how many tasks a board has
abbrev pub count_of : Board → ℕ
count_of b = length (ranked b)

-- reach tells which of the board's tasks reach which
abbrev pub IsReachOf : Board → (ℕ → ℕ → Bool) → Type 0
IsReachOf b reach = (j i : ℕ) → (reach j i ≡ true) ↔ ((i < count_of b) × IsReaching b j i)

-- all tasks wait, and then these events happen
abbrev pub state_of : Board → List PoolEvent → PoolState
state_of b events = run (opening (count_of b)) events

-- the events are a lawful run over the board's tasks
unfoldable pub IsRunOf : Board → List PoolEvent → Type 0
IsRunOf b events = (reach : ℕ → ℕ → Bool) × IsReachOf b reach × IsLawful reach (opening (count_of b)) events

-- the task waits, and each task that reaches it is finished
pub record IsReadyIn (b : Board) (events : List PoolEvent) (i : ℕ) : Type 0 where
  pub waiting : slot_at (state_of b events) i ≡ Waiting
  pub done : (j : ℕ) → IsReaching b j i → slot_at (state_of b events) j ≡ Finished

-- some task was given back
abbrev pub IsHalted : List PoolEvent → Type 0
IsHalted events = (worker : ℕ) × (i : ℕ) × IsOneOf (Back worker i) events

-- the one task that may be taken: none was given back, and it is the first in rank order that is ready
pub record IsNext (b : Board) (events : List PoolEvent) (i : ℕ) : Type 0 where
  pub calm : IsHalted events → ⊥
  pub ready : IsReadyIn b events i
  pub first : (j : ℕ) → j < i → IsReadyIn b events j → ⊥

-- no task is ready
abbrev pub NoneReady : Board → List PoolEvent → Type 0
NoneReady b events = (i : ℕ) → IsReadyIn b events i → ⊥

-- the worker holds the task
abbrev pub IsHeldBy : Board → List PoolEvent → ℕ → ℕ → Type 0
IsHeldBy b events worker i = slot_at (state_of b events) i ≡ Held worker

-- each task of the board is finished
abbrev pub AllFinished : Board → List PoolEvent → Type 0
AllFinished b events = (i : ℕ) → i < count_of b → slot_at (state_of b events) i ≡ Finished

-- no worker holds any task
abbrev pub NoneHeld : Board → List PoolEvent → Type 0
NoneHeld b events = (i worker : ℕ) → IsHeldBy b events worker i → ⊥

-- ---- what a worker is handed

-- leave to fill a task: the task with its rank, and the worker that took it
pub record Leave : Type 0 where
  pub task : Task
  pub number : ℕ
  pub worker : ℕ

-- the pool holds the ticket's number for the ticket's worker
abbrev pub IsHolding : Board → List PoolEvent → Leave → Type 0
IsHolding b events t = IsHeldBy b events t.worker t.number
