use Rattle.kept_copper.proofs.Decided.{large_is}
use Rattle.kept_copper.proofs.staying.is_large.Goals as goal

pub returns : goal.returns
returns c =
    large_is c.size_law.ensures.count _ c.args.octs.now c.args.area c.from.result c.count.result c.is_up_to.result c.in_ok-rows.ensures c.count.ensures c.from.ensures c.is_up_to.ensures
