-- A walk in rank order over an edited board, which keeps fills of the board before and makes the others anew.
use Rattle.std.specs.Prelude.{◌≡◌, ◌↔◌, ◌⊎◌, ℕ, zero, suc, ◌<◌, Bool, true, false, cond, List, [], ◌∷◌, ◌++◌, length, get_or}
use Rattle.classes.specs.Classes.{IsOneOf}
use Rattle.board_language.specs.Board.{Board}
use Rattle.fill_rules.specs.Tasks.{ranked}
use Rattle.fill_rules.specs.Reach.{IsReaching}
use Rattle.fill_rules.specs.Ranking.{IsSortedBy}
use Rattle.fill_rules.specs.Made.{Made, no_fill}
use Rattle.fill_rules.specs.Dirty.{IsUntouched, IsDirty, Spreads}
use Rattle.fills.specs.Fills.{IsFillOf}
use Rattle.output_rules.specs.Laws.{IsBelow}

-- ---- fills

-- they are the fills of the board's first tasks, in rank order
pub record AreFillsSoFar (d : Board) (fills : List Made) : Type 0 where
  pub each : (i : ℕ) → i < length fills → IsFillOf d i (get_or fills i no_fill)

-- the task of rank m has the pieces that it had on the board before
abbrev pub HasOldPieces : List Made → (ℕ → ℕ) → List Made → ℕ → Type 0
HasOldPieces olds old fills m = (get_or olds (old m) no_fill).pieces ≡ (get_or fills m no_fill).pieces

-- the task of rank k may keep its fill: it is untouched, and each task that reaches it has the pieces that it had
pub record MayStay (b d : Board) (old : ℕ → ℕ) (olds fills : List Made) (k : ℕ) : Type 0 where
  pub untouched : IsUntouched b d old k
  pub above : (m : ℕ) → IsReaching d m k → HasOldPieces olds old fills m

-- and does: its fill is the one that it had
pub record IsKeptFill (b d : Board) (old : ℕ → ℕ) (olds fills : List Made) (k : ℕ) : Type 0 where
  pub may : MayStay b d old olds fills k
  pub is : get_or fills k no_fill ≡ get_or olds (old k) no_fill

-- a fill for each task of d, either the one that it had on b, where that may stay, or one made on d
pub record IsWalk (b d : Board) (old : ℕ → ℕ) (olds fills : List Made) : Type 0 where
  pub count : length fills ≡ length (ranked d)
  pub each : (k : ℕ) → k < length fills → IsKeptFill b d old olds fills k ⊎ IsFillOf d k (get_or fills k no_fill)

-- ---- which tasks are filled again

-- a task that is filled again, and whose fill is another then, reaches the task
abbrev pub IsReachedAnew : Board → (ℕ → Bool) → (ℕ → Bool) → ℕ → Type 0
IsReachedAnew d changed again k = (m : ℕ) × IsReaching d m k × (again m ≡ true) × (changed m ≡ true)

-- of the first n tasks those are filled again that are flagged, or that a changed fill reaches
pub record AreFilledAgain (d : Board) (n : ℕ) (flagged changed again : ℕ → Bool) : Type 0 where
  pub each : (k : ℕ) → k < n → (again k ≡ true) ↔ ((flagged k ≡ true) ⊎ IsReachedAnew d changed again k)

-- `changed` tells whose fill has other pieces than before
pub record TellsPieces (old : ℕ → ℕ) (olds fills : List Made) (changed : ℕ → Bool) : Type 0 where
  pub each : (m : ℕ) → m < length fills → (changed m ≡ false) ↔ HasOldPieces olds old fills m

-- the same, by the fills of the two boards themselves
pub record TellsChange (b d : Board) (old : ℕ → ℕ) (changed : ℕ → Bool) : Type 0 where
  pub each : (k : ℕ) → k < length (ranked d) → (f g : Made) → IsFillOf b (old k) f → IsFillOf d k g → (changed k ≡ false) ↔ (f.pieces ≡ g.pieces)

-- a fill for each task of d: what is filled again has its fill on d, and all else has the fill that it had
pub record IsRefill (d : Board) (old : ℕ → ℕ) (olds fills : List Made) (flagged changed again : ℕ → Bool) : Type 0 where
  pub count : length fills ≡ length (ranked d)
  pub anew : AreFilledAgain d (length fills) flagged changed again
  pub tells : TellsPieces old olds fills changed
  pub made : (k : ℕ) → k < length fills → again k ≡ true → IsFillOf d k (get_or fills k no_fill)
  pub kept : (k : ℕ) → k < length fills → again k ≡ false → get_or fills k no_fill ≡ get_or olds (old k) no_fill

-- the task can be come to from a flagged one, each time from one whose fill changed to one that it reaches
abbrev pub IsDirtyByFlags : Board → (ℕ → Bool) → (ℕ → Bool) → ℕ → Type 0
IsDirtyByFlags d flagged changed k = IsDirty (λ (m : ℕ). flagged m ≡ true) (Spreads d (λ (m : ℕ). changed m ≡ true)) k

-- the numbers below n for which the test is true, upward
abbrev pub numbers_with : (ℕ → Bool) → ℕ → List ℕ
numbers_with test zero = []
numbers_with test (suc n) = numbers_with test n ++ cond (test n) (n ∷ []) []

-- they are exactly the tasks of the board for which the test is true, in rank order
pub record AreTasksWith (d : Board) (test : ℕ → Type 0) (ranks : List ℕ) : Type 0 where
  pub sorted : IsSortedBy IsBelow ranks
  pub members : (k : ℕ) → IsOneOf k ranks ↔ ((k < length (ranked d)) × test k)
