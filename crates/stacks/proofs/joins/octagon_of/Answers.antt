use Rattle.stacks.proofs.Unions.{in_range, octagon_is}
use Rattle.stacks.proofs.joins.octagon_of.Goals as goal

pub of_bounds-requires : goal.of_bounds-requires
of_bounds-requires c = in_range c.args.r c.requires

pub returns : goal.returns
returns c = octagon_is c.args.r c.of_bounds.result c.requires c.of_bounds.ensures.points c.of_bounds.ensures.oct
