use Rattle.std.proofs.Common.{rules, w64, FitsSigned}
use Rattle.octagon.proofs.Steps.{sum_high_of}
use Rattle.octagon.proofs.narrow.sum_high.Goals as goal

pub returns : goal.returns
returns c =
    let f : FitsSigned w64 c.least.result = search rules in
    sum_high_of c.args.own c.args.a1 c.args.b1 c.args.p c.args.q c.least.result c.ranges.own f c.requires.a c.requires.b c.requires.p c.requires.q c.least.ensures
