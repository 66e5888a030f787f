use Rattle.std.proofs.Common.{ap, arith, ◌∙◌}
use Rattle.std.specs.Prelude.{pos, ◌+ℤ◌, ◌-ℤ◌}
use Rattle.std.proofs.lemmas.Int.{ints}
use Rattle.touching.specs.Core.{Core}
use Rattle.copper_shape.specs.Shapes.{Copper}
use Rattle.copper_shape.proofs.Within.{box_within, box_core}
use Rattle.copper_shape.proofs.Centres.{box_pad, box_holds}
use Rattle.copper_shape.proofs.Shape.box_round.Goals as goal

pub with_radius-requires-clause-within : goal.with_radius-requires-clause-within
with_radius-requires-clause-within c =
    let h = c.requires.within in
    box_within 2000000000 _ _ _ _ c.rectangle.result c.rectangle.ensures (omega (arith, ints, h)) (omega (arith, ints, h)) (omega (arith, ints, h)) (omega (arith, ints, h))

pub returns : goal.returns
returns c =
    let h = c.requires.within in
    let p = c.args.center in
    let made : Core → Copper = λ k. record { core = k; radius = c.args.radius } in
    let core = box_core (p.x -ℤ pos c.args.hx) (p.x +ℤ pos c.args.hx) (p.y -ℤ pos c.args.hy) (p.y +ℤ pos c.args.hy) _ _ _ _ c.rectangle.result c.rectangle.ensures
    (omega (arith, ints, h)) (omega (arith, ints, h)) (omega (arith, ints, h)) (omega (arith, ints, h)) in
    let same = ap (λ (z : Copper). z.core) c.with_radius.ensures ∙ core in
    record {
      value = c.with_radius.ensures ∙ ap made core;
      pad = box_pad _ _ _ _ _ same (omega (arith, ints)) (omega (arith, ints));
      centre = box_holds _ _ _ _ p.x p.y _ same (omega (arith, ints)) (omega (arith, ints)) (omega (arith, ints)) (omega (arith, ints));
    }
