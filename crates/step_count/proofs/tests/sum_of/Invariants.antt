use Rattle.std.proofs.Common.{◌≡◌, ◌+◌}
use Rattle.step_count.proofs.tests.sum_of.Given as goal

abbrev pub invariant-bytes : goal.invariant-bytes
invariant-bytes g l = l.steps ≡ l.fn.steps + l.byte-index
