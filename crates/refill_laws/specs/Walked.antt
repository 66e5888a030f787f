-- A walk after its first tasks, in lists as a loop keeps them.
use Rattle.std.specs.Prelude.{◌≡◌, ℕ, ◌<◌, Bool, false, List, length, get_or, count_by}
use Rattle.board_language.specs.Board.{Board}
use Rattle.fill_rules.specs.Made.{Made}
use Rattle.refill_laws.specs.Walks.{AreFillsSoFar, HasOldPieces, TellsPieces, AreFilledAgain}

-- what the list says of this rank; past its end it says no
abbrev pub is_set : List Bool → ℕ → Bool
is_set marks k = get_or marks k false

-- how many of the list are true
abbrev pub count_set : List Bool → ℕ
count_set marks = count_by (λ (mark : Bool). mark) marks

-- Of the first tasks of the board d these are the fills; `again` marks the tasks that were filled again, and `changed` those whose
-- fill has other pieces than before.
pub record IsWalkedTo (d : Board) (old : ℕ → ℕ) (olds : List Made) (flagged : ℕ → Bool) (fills : List Made) (again changed : List Bool) : Type 0 where
  pub as_many : length again ≡ length fills
  pub as_told : length changed ≡ length fills
  pub right : AreFillsSoFar d fills
  pub anew : AreFilledAgain d (length fills) flagged (is_set changed) (is_set again)
  pub tells : TellsPieces old olds fills (is_set changed)
  pub kept : (m : ℕ) → m < length fills → is_set again m ≡ false → HasOldPieces olds old fills m
