use Rattle.scan_runs.proofs.Steps.{good_at}
use Rattle.scan_runs.proofs.Settled.{stilled_more}
use Rattle.scan_runs.proofs.settle.stilled.Goals as goal

pub runs-preserved : goal.runs-preserved
runs-preserved c =
    rw c.in_ok-push.ensures.items
    (stilled_more c.runs.run-index c.args.runs.now c.runs.all.items _ _ c.runs-test.true c.runs.invariant (good_at c.args.runs.now c.runs.run-index _ c.requires c.runs-test.true)
    c.still.ensures.place c.still.ensures.go c.still-in-runs.ensures.place c.still-in-runs.ensures.go)
