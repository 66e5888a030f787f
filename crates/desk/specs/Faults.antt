-- Faults of a desk, and the counts that tell them.
use Rattle.std.specs.Prelude.{◌≡◌, ℕ, ◌+◌, ◌-◌, ◌^◌, ◌<◌, ◌≤◌, min, List, length, Option, Result, IfOk, OnErr}
use Rattle.desk.specs.Seen.{Seen}
use Rattle.desk.specs.declared.Counts.{Counts}

-- before any fault
abbrev pub no_faults : Counts
no_faults = record { reading = 0; writing = 0; saying = 0; complaining = 0 }

-- A count rose: it is greater than before, or stands at its last value.
abbrev pub Rose : (before now : ℕ) → Type 0
Rose before now = min (before + 1) (2 ^ 64 - 1) ≤ now

-- The count of a call's own kind never falls, and the call failed only where it rose.
pub record HasCause {T E : Type 0} (before now : ℕ) (result : Result T E) : Type 0 where
  pub later : before ≤ now
  pub failed : OnErr result (Rose before now)

-- A call that takes nothing of a piece that isn't empty counts as failed: its count rose, and nothing changed that is told.
pub record IsFailedCall (before now : ℕ) (old new : Option Seen) : Type 0 where
  pub rose : Rose before now
  pub seen : new ≡ old

-- a call that takes nothing of a piece that isn't empty is a fault
abbrev pub TakesSome : {E : Type 0} → (before now : ℕ) → (old new : Option Seen) → List ℕ → Result ℕ E → Type 0
TakesSome before now old new piece result = IfOk result (λ n. n ≡ 0 → 0 < length piece → IsFailedCall before now old new)

-- All counts but one are as before.
abbrev pub OnlyReading : (before now : Counts) → Type 0
OnlyReading before now = (now.writing ≡ before.writing) × (now.saying ≡ before.saying) × (now.complaining ≡ before.complaining)

-- all but that of writing
abbrev pub OnlyWriting : (before now : Counts) → Type 0
OnlyWriting before now = (now.reading ≡ before.reading) × (now.saying ≡ before.saying) × (now.complaining ≡ before.complaining)

-- all but that of saying
abbrev pub OnlySaying : (before now : Counts) → Type 0
OnlySaying before now = (now.reading ≡ before.reading) × (now.writing ≡ before.writing) × (now.complaining ≡ before.complaining)

-- all but that of complaining
abbrev pub OnlyComplaining : (before now : Counts) → Type 0
OnlyComplaining before now = (now.reading ≡ before.reading) × (now.writing ≡ before.writing) × (now.saying ≡ before.saying)
