use Rattle.std.proofs.Common.{arith}
use Rattle.std.proofs.lemmas.Int.{ints}
use Rattle.scan_runs.proofs.Settled.{rest_of_by}
use Rattle.scan_runs.proofs.settle.rest_of.Goals as goal

pub returns : goal.returns
returns c =
    rest_of_by c.args.strip.now _ _ _ c.settled.result (omega (arith, ints)) (omega arith) (rw c.deref.ensures.value at c.in_ok-runs.ensures) (rw c.deref-2.ensures.value at c.settled.ensures)
