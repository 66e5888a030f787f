use Rattle.scan_rows.proofs.Steps.{without_more}
use Rattle.scan_rows.proofs.apart.without.Goals as goal

pub octs-preserved : goal.octs-preserved
octs-preserved c = without_more c.args.oct.now c.own-item.result c.args.octs.now c.octs.rest.items c.add_rest.new.out.items c.octs.own-index c.requires c.octs-test.true c.own-item.is c.octs.invariant c.in_ok-add_rest.ensures
