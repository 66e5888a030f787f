use Rattle.scan_runs.proofs.Walk.{small_at}
use Rattle.scan_runs.proofs.Settled.{advanced_more}
use Rattle.scan_runs.proofs.settle.advanced.Goals as goal

pub advanced_run-requires : goal.advanced_run-requires
advanced_run-requires c = small_at c.args.runs.now c.runs.run-index _ c.requires c.runs-test.true

pub runs-preserved : goal.runs-preserved
runs-preserved c =
    rw c.in_ok-push.ensures.items
    (advanced_more c.runs.run-index c.args.runs.now c.runs.all.items _ _ c.runs-test.true c.runs.invariant c.advanced_run.ensures)
