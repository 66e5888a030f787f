use Rattle.std.proofs.Common.{◌∙◌}
use Rattle.board_edit.proofs.Ends.{list_end}
use Rattle.board_edit.proofs.splice.up_to_end.Goals as goal

pub returns : goal.returns
returns c = λ root r. c.solid_end.ensures ∙ list_end c.args.text.now root r
