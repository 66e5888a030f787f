use Rattle.zone_fill.proofs.Entering.{need_at}
use Rattle.zone_fill.proofs.live.keeps_each.Goals as goal

pub keeps-requires : goal.keeps-requires
keeps-requires c = need_at c.args.needs.now c.each.need-index c.need-item.result c.each-test.true c.need-item.is c.requires
