-- The laws of the pool.
use Rattle.std.specs.Prelude.{◌≡◌, ℕ, ◌+◌, ◌<◌, ◌≤◌, Bool, true, false, cond, ◌==◌, ◌&&◌, List, [], ◌∷◌, ◌++◌, length}
use Rattle.pool_rules.specs.declared.PoolEvent.{PoolEvent}
use Rattle.pool_rules.specs.declared.PoolEvent.TheVariants.{Take, Finish, Back}
use Rattle.pool_rules.specs.declared.Slot.{Slot}
use Rattle.pool_rules.specs.declared.Slot.TheVariants.{Waiting, Held, Finished, Returned}
use Rattle.pool_rules.specs.Runs.{PoolState, slot_at, opening, pool_step, run, IsTake, IsEvent, IsLawful}

-- only tasks of lesser rank reach a task
abbrev pub IsUpward : (ℕ → ℕ → Bool) → Type 0
IsUpward reach = (j i : ℕ) → reach j i ≡ true → j < i

-- 1 where the event finishes the task
abbrev pub finish_of : ℕ → PoolEvent → ℕ
finish_of i (Finish w k) = cond (k == i) 1 0
finish_of i (Take w k) = 0
finish_of i (Back w k) = 0

-- how often the task is finished
abbrev pub finishes : ℕ → List PoolEvent → ℕ
finishes i [] = 0
finishes i (e ∷ es) = finish_of i e + finishes i es

-- 1 where the worker takes the task
abbrev pub take_of : ℕ → ℕ → PoolEvent → ℕ
take_of v i (Take w k) = cond ((w == v) && (k == i)) 1 0
take_of v i (Finish w k) = 0
take_of v i (Back w k) = 0

-- how often the worker takes the task
abbrev pub takes : ℕ → ℕ → List PoolEvent → ℕ
takes v i [] = 0
takes v i (e ∷ es) = take_of v i e + takes v i es

-- what every lawful run over n tasks has
pub record IsGoodRun (reach : ℕ → ℕ → Bool) (n : ℕ) (es : List PoolEvent) : Type 0 where
  -- each task is finished at most once
  pub once : (i : ℕ) → finishes i es ≤ 1
  -- by a worker that took it
  pub own : (xs ys : List PoolEvent) (w i : ℕ) → es ≡ xs ++ Finish w i ∷ ys → 1 ≤ takes w i xs
  -- every task that reaches a task was finished before that was taken
  pub before : (xs ys : List PoolEvent) (w i : ℕ) → es ≡ xs ++ Take w i ∷ ys → (j : ℕ) → reach j i ≡ true → finishes j xs ≡ 1
  -- where none was given back, none is held and some task is not finished, some take is lawful
  pub goes_on : (run (opening n) es).backed ≡ false → ((i w : ℕ) → slot_at (run (opening n) es) i ≡ Held w → ⊥)
      → (i : ℕ) → i < n → finishes i es ≡ 0 → (k : ℕ) × ((w : ℕ) → IsLawful reach (opening n) (es ++ Take w k ∷ []))
  -- a task has at most two events
  pub short : length es ≤ n + n

-- every lawful run over n tasks is good
abbrev pub GoodRunsLaw : Type 0
GoodRunsLaw = (reach : ℕ → ℕ → Bool) → IsUpward reach → (n : ℕ) (es : List PoolEvent) → IsLawful reach (opening n) es → IsGoodRun reach n es

-- each task that reaches a held one is finished
abbrev pub HeldLaw : Type 0
HeldLaw = (reach : ℕ → ℕ → Bool) (n : ℕ) (es : List PoolEvent) → IsLawful reach (opening n) es
    → (i v : ℕ) → slot_at (run (opening n) es) i ≡ Held v → (j : ℕ) → reach j i ≡ true → slot_at (run (opening n) es) j ≡ Finished

-- of two tasks that may be taken, both are the same
abbrev pub OneTakeLaw : Type 0
OneTakeLaw = (reach : ℕ → ℕ → Bool) (s : PoolState) (i j : ℕ) → IsTake reach s i → IsTake reach s j → i ≡ j

-- the task that an event is of
abbrev pub event_task : PoolEvent → ℕ
event_task (Take w i) = i
event_task (Finish w i) = i
event_task (Back w i) = i

-- after a lawful event its task is held by the worker, finished or returned, and every other stands as it stood
pub record EventsLaw : Type 0 where
  pub take : (reach : ℕ → ℕ → Bool) (s : PoolState) (w i : ℕ) → IsEvent reach s (Take w i) → slot_at (pool_step s (Take w i)) i ≡ Held w
  pub finish : (reach : ℕ → ℕ → Bool) (s : PoolState) (w i : ℕ) → IsEvent reach s (Finish w i) → slot_at (pool_step s (Finish w i)) i ≡ Finished
  pub back : (reach : ℕ → ℕ → Bool) (s : PoolState) (w i : ℕ) → IsEvent reach s (Back w i) → slot_at (pool_step s (Back w i)) i ≡ Returned
  pub rest : (s : PoolState) (e : PoolEvent) (j : ℕ) → (event_task e ≡ j → ⊥) → slot_at (pool_step s e) j ≡ slot_at s j
  -- only a task given back halts the pool
  pub halt : (s : PoolState) (w i : ℕ) → (pool_step s (Back w i)).backed ≡ true
