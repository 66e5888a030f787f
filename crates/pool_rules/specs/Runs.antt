-- Runs of the pool: lists of events, each lawful after those before it. `reach j i` says that the task j reaches the task i.
use Rattle.std.specs.Prelude.{◌≡◌, ℕ, ◌<◌, Bool, true, false, List, [], ◌∷◌, get_or, set, replicate}
use Rattle.pool_rules.specs.declared.PoolEvent.{PoolEvent}
use Rattle.pool_rules.specs.declared.PoolEvent.TheVariants.{Take, Finish, Back}
use Rattle.pool_rules.specs.declared.Slot.{Slot}
use Rattle.pool_rules.specs.declared.Slot.TheVariants.{Waiting, Held, Finished, Returned}

-- how the tasks stand, and whether one was given back
pub record PoolState : Type 0 where
  pub slots : List Slot
  pub backed : Bool

-- past the last task there is nothing to do
abbrev pub slot_at : PoolState → ℕ → Slot
slot_at s i = get_or s.slots i Finished

-- all tasks wait
abbrev pub opening : ℕ → PoolState
opening n = record { slots = replicate n Waiting; backed = false }

-- an event enters how its task stands now; one that is given back is noted
abbrev pub pool_step : PoolState → PoolEvent → PoolState
pool_step s (Take w i) = record { slots = set s.slots i (Held w); backed = s.backed }
pool_step s (Finish w i) = record { slots = set s.slots i Finished; backed = s.backed }
pool_step s (Back w i) = record { slots = set s.slots i Returned; backed = true }

-- the state behind a list of events
abbrev pub run : PoolState → List PoolEvent → PoolState
run s [] = s
run s (e ∷ es) = run (pool_step s e) es

-- the task waits, and each task that reaches it is finished
pub record IsReady (reach : ℕ → ℕ → Bool) (s : PoolState) (i : ℕ) : Type 0 where
  pub waiting : slot_at s i ≡ Waiting
  pub done : (j : ℕ) → reach j i ≡ true → slot_at s j ≡ Finished

-- none was given back, and the task is the least that is ready
pub record IsTake (reach : ℕ → ℕ → Bool) (s : PoolState) (i : ℕ) : Type 0 where
  pub calm : s.backed ≡ false
  pub ready : IsReady reach s i
  pub least : (j : ℕ) → j < i → IsReady reach s j → ⊥

-- the event is lawful
abbrev pub IsEvent : (ℕ → ℕ → Bool) → PoolState → PoolEvent → Type 0
IsEvent reach s (Take w i) = IsTake reach s i
IsEvent reach s (Finish w i) = slot_at s i ≡ Held w
IsEvent reach s (Back w i) = slot_at s i ≡ Held w

-- each event is lawful after those before it
unfoldable pub IsLawful : (ℕ → ℕ → Bool) → PoolState → List PoolEvent → Type 0
IsLawful reach s [] = Unit {0}
IsLawful reach s (e ∷ es) = IsEvent reach s e × IsLawful reach (pool_step s e) es
