use Rattle.std.proofs.Common.{ap, arith, ◌∙◌}
use Rattle.std.proofs.lemmas.Int.{ints}
use Rattle.copper_shape.specs.Shapes.{Copper}
use Rattle.copper_shape.proofs.Within.{box_within}
use Rattle.copper_shape.proofs.Centres.{box_pad, box_holds}
use Rattle.copper_shape.proofs.Shape.disc.Goals as goal

pub with_radius-requires-clause-within : goal.with_radius-requires-clause-within
with_radius-requires-clause-within c =
    box_within 2000000000 _ _ _ _ c.point.result c.point.ensures c.requires.center.x.low c.requires.center.x.high c.requires.center.y.low c.requires.center.y.high

pub returns-clause-pad : goal.returns-clause-pad
returns-clause-pad c =
    let p = c.args.center in
    box_pad p.x p.x p.y p.y _ (ap (λ (z : Copper). z.core) c.with_radius.ensures ∙ c.point.ensures) (omega (arith, ints)) (omega (arith, ints))

pub returns-clause-centre : goal.returns-clause-centre
returns-clause-centre c =
    let p = c.args.center in
    box_holds p.x p.x p.y p.y p.x p.y _ (ap (λ (z : Copper). z.core) c.with_radius.ensures ∙ c.point.ensures)
    (omega (arith, ints)) (omega (arith, ints)) (omega (arith, ints)) (omega (arith, ints))
