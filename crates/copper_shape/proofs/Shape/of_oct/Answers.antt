use Rattle.copper_shape.proofs.Within.{oct_within}
use Rattle.copper_shape.proofs.Shape.of_oct.Goals as goal

pub with_radius-requires-clause-within : goal.with_radius-requires-clause-within
with_radius-requires-clause-within c = oct_within c.args.oct.now c.of_oct.result c.of_oct.ensures c.requires
