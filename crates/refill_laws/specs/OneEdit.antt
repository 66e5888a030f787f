-- One edit of a board, and where the tasks of the new board stood on the old one.
use Rattle.std.specs.Prelude.{ℕ, List}
use Rattle.board_language.specs.declared.board.Rules.{Rules}
use Rattle.board_language.specs.Board.{Board}
use Rattle.fill_rules.specs.Tasks.{ranked, task_at}
use Rattle.fill_rules.specs.Nodes.{rank_in}
use Rattle.edit_language.specs.declared.edit.Edit.{Edit}
use Rattle.edit_language.specs.Scripts.{IsWritten}
use Rattle.edit_language.specs.Edited.{IsAcceptedEdit, IsBoardOf}

-- an edit that a line of a script gives, that is accepted, and that leads from the board b to the board d
pub record LeadsTo (text new : List ℕ) (rules : Rules) (b d : Board) (edit : Edit) : Type 0 where
  pub written : IsWritten edit
  pub accepted : IsAcceptedEdit text edit new
  pub before : IsBoardOf text rules b
  pub after : IsBoardOf new rules d

-- the rank on b of the task of rank m of d
unfoldable pub old_rank : Board → Board → ℕ → ℕ
old_rank b d m = rank_in (task_at d m) (ranked b)
