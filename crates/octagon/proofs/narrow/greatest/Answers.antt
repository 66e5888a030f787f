use Rattle.octagon.proofs.Steps.{greatest_of}
use Rattle.octagon.proofs.narrow.greatest.Goals as goal

pub returns : goal.returns
returns c =
    greatest_of c.args.a c.args.b c.args.c c.args.d c.max.result c.max-2.result c.max-3.result c.ranges.a c.ranges.b c.ranges.c c.ranges.d
    c.max.ensures.value c.max-2.ensures.value c.max-3.ensures.value
