use Rattle.scan_rows.proofs.Steps.{without_all_more}
use Rattle.scan_rows.proofs.apart.without_each.Goals as goal

pub others-preserved : goal.others-preserved
others-preserved c =
    without_all_more c.other-item.result c.args.others.now c.args.octs.now c.others.rest.items c.in_ok-rest-2.rest.items c.others.other-index c.others-test.true c.other-item.is c.others.invariant
    (rw c.deref.ensures.value at c.in_ok-rest-2.ensures)
