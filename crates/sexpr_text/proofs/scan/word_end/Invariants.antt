use Rattle.std.proofs.Common.{length, ◌-◌, ◌<◌, ◌≤◌}
use Rattle.sexpr_text.specs.Grammar.{HoldsBetween, is_word}
use Rattle.sexpr_text.proofs.scan.word_end.Given as goal

abbrev pub invariant-loop-end : goal.invariant-loop-end
invariant-loop-end l = (l.at < l.end) × (l.end ≤ length l.bytes) × HoldsBetween is_word l.bytes l.at l.end

abbrev pub decreases-loop-end : goal.decreases-loop-end
decreases-loop-end l = length l.bytes - l.end
