use Rattle.scan_rows.proofs.Steps.{joined_more}
use Rattle.scan_rows.proofs.apart.joined.Goals as goal

pub others-preserved : goal.others-preserved
others-preserved c =
    rw c.in_ok-push.ensures.items
    (joined_more c.other-item.result c.args.others.now c.args.octs.now c.others.all.items c.in_ok-all-2.all.items c.others.other-index c.others-test.true c.other-item.is c.others.invariant
    (rw c.deref.ensures.value at c.in_ok-all-2.ensures))
