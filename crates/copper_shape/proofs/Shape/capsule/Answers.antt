use Rattle.std.proofs.Common.{ap, ◌∙◌}
use Rattle.cores.specs.Room.{spot}
use Rattle.copper_shape.specs.Shapes.{Copper}
use Rattle.copper_shape.proofs.Within.{line_within}
use Rattle.copper_shape.proofs.Centres.{line_pad, line_middle}
use Rattle.copper_shape.proofs.Shape.capsule.Goals as goal

pub with_radius-requires-clause-within : goal.with_radius-requires-clause-within
with_radius-requires-clause-within c = line_within 2000000000 c.args.from c.args.to c.segment.result c.segment.ensures c.requires.from c.requires.to

pub returns-clause-pad : goal.returns-clause-pad
returns-clause-pad c = λ h. line_pad (spot c.args.from) (spot c.args.to) _ (ap (λ (z : Copper). z.core) c.with_radius.ensures ∙ c.segment.ensures) h

pub returns-clause-centre : goal.returns-clause-centre
returns-clause-centre c = λ x y h g.
    line_middle (spot c.args.from) (spot c.args.to) x y _ (ap (λ (z : Copper). z.core) c.with_radius.ensures ∙ c.segment.ensures) h g
