use Rattle.octagon.proofs.Steps.{upper_of}
use Rattle.octagon.proofs.narrow.upper.Goals as goal

pub returns : goal.returns
returns c =
    upper_of c.args.own c.args.sum c.args.far c.args.difference c.args.near c.half_down.result c.least.result c.ranges.own c.requires.s c.requires.f c.requires.d c.requires.n
    c.half_down.ensures c.least.ensures
