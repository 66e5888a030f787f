-- The laws of the pool of a board.
use Rattle.std.specs.Prelude.{◌≡◌, ℕ, ◌+◌, ◌<◌, ◌≤◌, List, [], ◌∷◌, ◌++◌, length}
use Rattle.board_language.specs.Board.{Board}
use Rattle.fill_rules.specs.Tasks.{task_at}
use Rattle.fill_rules.specs.Reach.{IsReaching}
use Rattle.pool_rules.specs.declared.PoolEvent.{PoolEvent}
use Rattle.pool_rules.specs.declared.PoolEvent.TheVariants.{Take, Finish, Back}
use Rattle.pool_rules.specs.Runs.{slot_at}
use Rattle.pool_rules.specs.declared.Slot.TheVariants.{Finished}
use Rattle.pool_rules.specs.Laws.{finishes, takes}
use Rattle.fill_rules.specs.Made.{Made}
use Rattle.fill_pool.specs.Runs.{count_of, state_of, IsRunOf, IsHalted, IsNext, IsHeldBy, NoneHeld}
use Rattle.fills.specs.Fills.{IsFillOf}
use Rattle.fills.specs.Above.{AreFillsAbove, AreFillsAboveTask}
use Rattle.zone_fill.specs.Task.{IsFillOfTask}

-- what every lawful run of a board has, of any length and with any workers
pub record IsGoodRunOf (b : Board) (events : List PoolEvent) : Type 0 where
  -- each task is finished at most once
  pub once : (i : ℕ) → finishes i events ≤ 1
  -- by a worker that took it
  pub own : (before after : List PoolEvent) (w i : ℕ) → events ≡ before ++ Finish w i ∷ after → 1 ≤ takes w i before
  -- every task that reaches a task was finished before that was taken
  pub above : (before after : List PoolEvent) (w i : ℕ) → events ≡ before ++ Take w i ∷ after → (j : ℕ) → IsReaching b j i → finishes j before ≡ 1
  -- where none was given back, none is held and some task isn't finished, some task may be taken
  pub goes_on : (IsHalted events → ⊥) → NoneHeld b events → (i : ℕ) → i < count_of b → finishes i events ≡ 0
      → (k : ℕ) × IsNext b events k
  -- a task has at most two events
  pub short : length events ≤ count_of b + count_of b

-- every lawful run over a board's tasks is good
abbrev pub BoardRunsLaw : Type 0
BoardRunsLaw = (b : Board) (events : List PoolEvent) → IsRunOf b events → IsGoodRunOf b events

-- which events may follow a lawful run: taking the next task, by whichever worker, and what the holder of a task does
pub record FollowsLaw : Type 0 where
  pub take : (b : Board) (events : List PoolEvent) (w i : ℕ) → IsRunOf b events → IsNext b events i → IsRunOf b (events ++ Take w i ∷ [])
  pub taken : (b : Board) (events : List PoolEvent) (w i : ℕ) → IsRunOf b (events ++ Take w i ∷ []) → IsNext b events i
  pub finish : (b : Board) (events : List PoolEvent) (w i : ℕ) → IsRunOf b events → IsHeldBy b events w i → IsRunOf b (events ++ Finish w i ∷ [])
  pub finished : (b : Board) (events : List PoolEvent) (w i : ℕ) → IsRunOf b (events ++ Finish w i ∷ []) → IsHeldBy b events w i
  pub back : (b : Board) (events : List PoolEvent) (w i : ℕ) → IsRunOf b events → IsHeldBy b events w i → IsRunOf b (events ++ Back w i ∷ [])
  pub backed : (b : Board) (events : List PoolEvent) (w i : ℕ) → IsRunOf b (events ++ Back w i ∷ []) → IsHeldBy b events w i

-- while a task is held, every task that reaches it stays finished
abbrev pub AboveLaw : Type 0
AboveLaw =
    (b : Board) (events : List PoolEvent) → IsRunOf b events → (w i : ℕ) → IsHeldBy b events w i → (j : ℕ) → IsReaching b j i
    → slot_at (state_of b events) j ≡ Finished

-- what a task is filled on is one list of fills, whatever run led to it
abbrev pub OneAboveLaw : Type 0
OneAboveLaw = (b : Board) (i : ℕ) (fills others : List Made) → AreFillsAbove b i fills → AreFillsAbove b i others → fills ≡ others

-- how a ticket's task is filled: what is above it by its rank is above it as a task, and its fill as a task is that of its rank
pub record TicketFillLaw : Type 0 where
  pub above : (b : Board) (i : ℕ) (fills : List Made) → i < count_of b → AreFillsAbove b i fills → AreFillsAboveTask b (task_at b i) fills
  pub fill : (b : Board) (i : ℕ) (f : Made) → i < count_of b → IsFillOfTask b (task_at b i) f → IsFillOf b i f
