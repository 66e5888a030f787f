use Rattle.kept_copper.proofs.Reaches.{octs_more}
use Rattle.kept_copper.proofs.cells.octs_of.Goals as goal

pub each-preserved : goal.each-preserved
each-preserved c = rw c.in_ok-push.ensures.items (octs_more c.args.cells.now c.cell-item.result c.each.cell-index c.each.octs.items c.each-test.true c.cell-item.is c.each.invariant)
