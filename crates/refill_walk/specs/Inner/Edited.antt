-- What a refill goes by.
use Rattle.std.specs.Prelude.{◌≡◌, length, map}
use Rattle.std.specs.Arc.{arc_value}
use Rattle.board_language.specs.Facts.{IsSoundBoard}
use Rattle.fill_rules.specs.Tasks.{ranked}
use Rattle.fills.specs.Fills.{task_of, AreBoardFills}
use Rattle.refill_laws.specs.OneEdit.{old_rank}
use Rattle.refill_laws.specs.Flags.{AreFlags}
use Rattle.refill_laws.specs.Walked.{is_set}
use Rattle.refill_walk.specs.declared.edited.Edited.{Edited}

-- the tasks of both boards in rank order, the fills of the board that was filled, and right flags for the tasks now
pub record IsEdited (e : Edited) : Type 0 where
  pub sound_before : IsSoundBoard e.filled.now.board
  pub sound : IsSoundBoard e.board.now.board
  pub order_before : map task_of e.old_tasks.now ≡ ranked e.filled.now.board
  pub order : map task_of e.tasks.now ≡ ranked e.board.now.board
  pub right : AreBoardFills e.filled.now.board (map arc_value e.olds.now)
  pub flagged : AreFlags e.filled.now.board e.board.now.board (old_rank e.filled.now.board e.board.now.board) (is_set e.flags.now)
  pub as_many : length e.flags.now ≡ length e.tasks.now
