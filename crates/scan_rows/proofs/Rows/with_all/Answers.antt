use Rattle.scan_rows.proofs.Steps.{set_more}
use Rattle.scan_rows.proofs.Rows.with_all.Goals as goal

pub sets-preserved : goal.sets-preserved
sets-preserved c =
    set_more c.other-item.result c.args.others.now c.args.self.now c.sets.all.items c.in_ok-all-2.all.items c.sets.other-index c.sets-test.true c.other-item.is c.sets.invariant
    (rw (c.deref.ensures.value, c.kept-in-sets.ensures.value) at c.in_ok-all-2.ensures)
