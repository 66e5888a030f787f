use Rattle.octagon.proofs.Steps.{least_of}
use Rattle.octagon.proofs.narrow.least.Goals as goal

pub returns : goal.returns
returns c =
    least_of c.args.a c.args.b c.args.c c.args.d c.min.result c.min-2.result c.min-3.result c.ranges.a c.ranges.b c.ranges.c c.ranges.d
    c.min.ensures.value c.min-2.ensures.value c.min-3.ensures.value
