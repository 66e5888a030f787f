use Rattle.std.proofs.Common.{◌≡◌}
use Rattle.board_text.specs.Items.{solid_end}
use Rattle.board_text.proofs.space.solid_end.Given as goal

abbrev pub invariant-back : goal.invariant-back
invariant-back l = solid_end l.bytes l.solid ≡ solid_end l.bytes l.end

abbrev pub decreases-back : goal.decreases-back
decreases-back l = l.solid
