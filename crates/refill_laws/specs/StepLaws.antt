-- A walk, step by step.
use Rattle.std.specs.Prelude.{◌≡◌, ◌≢◌, ◌↔◌, ◌⊎◌, ℕ, ◌+◌, ◌≤◌, ◌<◌, Bool, true, false, List, [], ◌∷◌, ◌++◌, length, get_or}
use Rattle.board_language.specs.declared.board.Rules.{Rules}
use Rattle.board_language.specs.Board.{Board}
use Rattle.board_language.specs.Facts.{IsSoundBoard}
use Rattle.fill_rules.specs.Tasks.{ranked, task_at}
use Rattle.fill_rules.specs.Made.{Made, no_fill}
use Rattle.fill_rules.specs.Nodes.{made_of}
use Rattle.fills.specs.Fills.{IsFillOf, AreBoardFills}
use Rattle.edit_language.specs.declared.edit.Edit.{Edit}
use Rattle.dirty_rules.specs.Dirty.{IsInDirtySet, AreOldRanks}
use Rattle.refill_laws.specs.Flags.{AreFlags, AreFlagsOf}
use Rattle.refill_laws.specs.Walks.{IsReachedAnew, TellsChange, IsDirtyByFlags, AreTasksWith}
use Rattle.refill_laws.specs.Walked.{is_set, count_set, IsWalkedTo}

-- a walk begins with no task
abbrev pub StartLaw : Type 0
StartLaw = (d : Board) (old : ℕ → ℕ) (olds : List Made) (flagged : ℕ → Bool) → IsWalkedTo d old olds flagged [] [] []

-- the next task is filled again: it is flagged, or reached by a task that was filled again and has other pieces than before
abbrev pub IsNextAnew : Board → (ℕ → Bool) → List Made → List Bool → List Bool → Type 0
IsNextAnew d flagged fills again changed = (flagged (length fills) ≡ true) ⊎ IsReachedAnew d (is_set changed) (is_set again) (length fills)

-- a task that isn't keeps its fill
abbrev pub KeptStepLaw : Type 0
KeptStepLaw =
    (b d : Board) → IsSoundBoard b → IsSoundBoard d → (old : ℕ → ℕ) (olds : List Made) (flagged : ℕ → Bool) → AreFlags b d old flagged
    → AreBoardFills b olds → (fills : List Made) (again changed : List Bool) → IsWalkedTo d old olds flagged fills again changed
    → length fills < length (ranked d) → (IsNextAnew d flagged fills again changed → ⊥)
    → IsWalkedTo d old olds flagged (fills ++ get_or olds (old (length fills)) no_fill ∷ []) (again ++ false ∷ []) (changed ++ false ∷ [])

-- one that is gets its fill on the board d, and it is told whether that has other pieces than before
abbrev pub MadeStepLaw : Type 0
MadeStepLaw =
    (d : Board) (old : ℕ → ℕ) (olds : List Made) (flagged : ℕ → Bool) (fills : List Made) (again changed : List Bool)
    → IsWalkedTo d old olds flagged fills again changed → IsNextAnew d flagged fills again changed → (f : Made) → IsFillOf d (length fills) f
    → (differs : Bool) → ((differs ≡ false) ↔ ((get_or olds (old (length fills)) no_fill).pieces ≡ f.pieces))
    → IsWalkedTo d old olds flagged (fills ++ f ∷ []) (again ++ true ∷ []) (changed ++ differs ∷ [])

-- at the end `changed` tells whose fill changed
abbrev pub EndTellsLaw : Type 0
EndTellsLaw =
    (b d : Board) (old : ℕ → ℕ) (olds : List Made) (flagged : ℕ → Bool) (fills : List Made) (again changed : List Bool) → AreOldRanks b d old
    → AreBoardFills b olds → IsWalkedTo d old olds flagged fills again changed → length fills ≡ length (ranked d)
    → TellsChange b d old (is_set changed)

-- so it does by the fills of each task of the two boards, wherever it ranks on them
abbrev pub EndChangedLaw : Type 0
EndChangedLaw =
    (b d : Board) (old : ℕ → ℕ) (olds : List Made) (flagged : ℕ → Bool) (fills : List Made) (again changed : List Bool)
    → length b.zones ≡ length d.zones → AreOldRanks b d old → AreBoardFills b olds → IsWalkedTo d old olds flagged fills again changed
    → length fills ≡ length (ranked d) → (k : ℕ)
    → (is_set changed k ≡ true) ↔ ((made_of b olds (task_at d k)).pieces ≢ (made_of d fills (task_at d k)).pieces)

-- and as many tasks were filled again as can be come to from flagged ones
abbrev pub EndCountLaw : Type 0
EndCountLaw =
    (b d : Board) (old : ℕ → ℕ) (olds : List Made) (flagged : ℕ → Bool) (fills : List Made) (again changed : List Bool) → AreOldRanks b d old
    → AreBoardFills b olds → IsWalkedTo d old olds flagged fills again changed → length fills ≡ length (ranked d)
    → (all : ℕ → Bool) → TellsChange b d old all → (ranks : List ℕ) → AreTasksWith d (λ (k : ℕ). IsDirtyByFlags d flagged all k) ranks
    → count_set again ≡ length ranks

-- there is such a list
abbrev pub SomeRanksLaw : Type 0
SomeRanksLaw =
    (b d : Board) (old : ℕ → ℕ) (olds : List Made) (flagged : ℕ → Bool) (fills : List Made) (again changed : List Bool)
    → IsWalkedTo d old olds flagged fills again changed → length fills ≡ length (ranked d)
    → (ranks : List ℕ) × AreTasksWith d (λ (k : ℕ). IsDirtyByFlags d flagged (is_set changed) k) ranks

-- with the flags of a list of edits they are the dirty set of the list
abbrev pub EndDirtyLaw : Type 0
EndDirtyLaw =
    (text : List ℕ) (list : List Edit) (rules : Rules) (d : Board) (old : ℕ → ℕ) (olds : List Made) (flagged : ℕ → Bool) (fills : List Made)
    (again changed : List Bool) → AreFlagsOf text list rules d flagged → IsWalkedTo d old olds flagged fills again changed
    → length fills ≡ length (ranked d)
    → (ranks : List ℕ) × AreTasksWith d (λ (k : ℕ). IsInDirtySet text list rules d (is_set changed) k) ranks × (count_set again ≡ length ranks)

-- before the end no more were, even with the next task where that is filled again
abbrev pub EarlyCountLaw : Type 0
EarlyCountLaw =
    (b d : Board) (old : ℕ → ℕ) (olds : List Made) (flagged : ℕ → Bool) (fills : List Made) (again changed : List Bool) → AreOldRanks b d old
    → AreBoardFills b olds → IsWalkedTo d old olds flagged fills again changed → length fills ≤ length (ranked d)
    → (all : ℕ → Bool) → TellsChange b d old all → (ranks : List ℕ) → AreTasksWith d (λ (k : ℕ). IsDirtyByFlags d flagged all k) ranks
    → (count_set again ≤ length ranks)
    × (length fills < length (ranked d) → IsNextAnew d flagged fills again changed → count_set again + 1 ≤ length ranks)
