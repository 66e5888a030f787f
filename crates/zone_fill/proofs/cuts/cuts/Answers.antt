use Rattle.zone_fill.proofs.Cutting.{barred_cuts}
use Rattle.zone_fill.proofs.cuts.cuts.Goals as goal

pub returns : goal.returns
returns c =
    barred_cuts c.args.radius c.args.walls.now c.args.needs.now c.in_ok-cuts.cuts.items c.in_ok-more.more.items c.append.new.self.items
    c.in_ok-append.ensures.items c.in_ok-cuts.ensures c.in_ok-more.ensures
