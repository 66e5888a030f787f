-- Flags that edits set: what isn't flagged is untouched since the board was filled.
use Rattle.std.specs.Prelude.{◌≡◌, ◌↔◌, ◌⊎◌, ℕ, ◌<◌, Bool, true, false, List, length}
use Rattle.board_language.specs.declared.board.Rules.{Rules}
use Rattle.board_language.specs.Board.{Board}
use Rattle.fill_rules.specs.Tasks.{ranked, task_at}
use Rattle.fill_rules.specs.Dirty.{IsUntouched}
use Rattle.edit_language.specs.declared.edit.Edit.{Edit}
use Rattle.dirty_rules.specs.Dirty.{IsDirtying, IsDirtied, AreOldRanks}

-- The board b was filled when it was `filled`, where each task had its old rank. What is not flagged is untouched since.
pub record AreFlags (filled b : Board) (old : ℕ → ℕ) (flagged : ℕ → Bool) : Type 0 where
  pub ranks : AreOldRanks filled b old
  pub clean : (k : ℕ) → k < length (ranked b) → flagged k ≡ false → IsUntouched filled b old k

-- The flags `next` of the board d, which the edit makes of the board b: what was flagged on b stays flagged, whatever its rank
-- now, and so is what the edit dirties.
pub record AreNextFlags (text new : List ℕ) (rules : Rules) (b d : Board) (edit : Edit) (old : ℕ → ℕ) (flagged next : ℕ → Bool) : Type 0 where
  pub each : (k : ℕ) → k < length (ranked d) → (next k ≡ true) ↔ ((flagged (old k) ≡ true) ⊎ IsDirtying text new rules b d edit k)

-- the flags of the last board b tell exactly the tasks that an edit of the list dirties
abbrev pub AreFlagsOf : List ℕ → List Edit → Rules → Board → (ℕ → Bool) → Type 0
AreFlagsOf text list rules b flagged = (k : ℕ) → k < length (ranked b) → (flagged k ≡ true) ↔ IsDirtied text list rules (task_at b k)
