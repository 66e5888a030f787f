use Rattle.std.proofs.Common.{length, ◌-◌}
use Rattle.sexpr_text.specs.Grammar.{IsWhite}
use Rattle.sexpr_text.proofs.scan.space_end.Given as goal

abbrev pub invariant-loop-end : goal.invariant-loop-end
invariant-loop-end l = IsWhite l.bytes l.at l.end

abbrev pub decreases-loop-end : goal.decreases-loop-end
decreases-loop-end l = length l.bytes - l.end
