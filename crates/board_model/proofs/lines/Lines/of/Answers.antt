use Rattle.std.proofs.Common.{arith, refl}
use Rattle.board_text.specs.Items.{line_of}
use Rattle.board_model.proofs.lines.Lines.of.Goals as goal

pub invariant_of-result : goal.invariant_of-result
unfolding line_of
invariant_of-result c = (omega arith, refl, omega arith)
