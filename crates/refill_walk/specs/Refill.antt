-- How many tasks a refill of an edited board fills again.
use Rattle.std.specs.Prelude.{◌≡◌, ◌≢◌, ◌↔◌, ℕ, ◌+◌, ◌≤◌, Bool, true, List, length}
use Rattle.board_language.specs.Board.{Board}
use Rattle.fill_rules.specs.Tasks.{task_at}
use Rattle.fill_rules.specs.Made.{Made}
use Rattle.fill_rules.specs.Nodes.{made_of}
use Rattle.refill_laws.specs.OneEdit.{old_rank}
use Rattle.refill_laws.specs.Walks.{TellsChange, IsDirtyByFlags, AreTasksWith}

-- So many tasks of the board d are filled again: those that can be come to from flagged ones, each time from a task whose list of
-- pieces is another than on the board b to one that it reaches. `changed` tells whose list is, `ranks` are those tasks.
pub record IsDirtyCount (b : Board) (olds : List Made) (d : Board) (fills : List Made) (flagged : ℕ → Bool) (n : ℕ) : Type 0 where
  pub changed : ℕ → Bool
  pub tells : (k : ℕ) → (changed k ≡ true) ↔ ((made_of b olds (task_at d k)).pieces ≢ (made_of d fills (task_at d k)).pieces)
  pub ranks : List ℕ
  pub are : AreTasksWith d (λ (k : ℕ). IsDirtyByFlags d flagged changed k) ranks
  pub count : n ≡ length ranks

-- The count of steps did not fall, and rose by no more than there are tasks that can be come to from flagged ones by changed
-- fills, whatever tells of these fills and whatever list holds the tasks.
pub record AreStepsWithin (b d : Board) (flagged : ℕ → Bool) (before now : ℕ) : Type 0 where
  pub grown : before ≤ now
  pub most : (changed : ℕ → Bool) → TellsChange b d (old_rank b d) changed → (ranks : List ℕ)
      → AreTasksWith d (λ (k : ℕ). IsDirtyByFlags d flagged changed k) ranks → now ≤ before + length ranks
