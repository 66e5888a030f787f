use Rattle.std.proofs.Common.{rules, w64, FitsSigned}
use Rattle.octagon.proofs.Steps.{sum_low_of}
use Rattle.octagon.proofs.narrow.sum_low.Goals as goal

pub returns : goal.returns
returns c =
    let f : FitsSigned w64 c.greatest.result = search rules in
    sum_low_of c.args.own c.args.a0 c.args.b0 c.args.p c.args.q c.greatest.result c.ranges.own f c.requires.a c.requires.b c.requires.p c.requires.q c.greatest.ensures
