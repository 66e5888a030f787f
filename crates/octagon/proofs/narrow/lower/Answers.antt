use Rattle.octagon.proofs.Steps.{lower_of}
use Rattle.octagon.proofs.narrow.lower.Goals as goal

pub returns : goal.returns
returns c =
    lower_of c.args.own c.args.sum c.args.far c.args.difference c.args.near c.half_up.result c.greatest.result c.ranges.own c.requires.s c.requires.f c.requires.d c.requires.n
    c.half_up.ensures c.greatest.ensures
