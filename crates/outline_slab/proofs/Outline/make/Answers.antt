use Rattle.std.proofs.Common.{arith}
use Rattle.std.proofs.lemmas.Option.{MatchOption-at_none}
use Rattle.outline_slab.proofs.Halves.{kept}
use Rattle.outline_slab.proofs.Simple.{all_reached}
use Rattle.outline_slab.proofs.Wide.{frame_kept}
use Rattle.outline_slab.proofs.Outline.make.Goals as goal

pub of_points-frame-requires-clause-some : goal.of_points-frame-requires-clause-some
of_points-frame-requires-clause-some c =
    let k = kept c.in_ok-units.units.items c.args.vertices.now c.in_ok-units.ensures c.requires
    (record {
      three = omega arith;
      sides = c.in_default-first_off_angle.ensures;
      apart = MatchOption-at_none _ _ c.in_default-2.is c.in_ok-first.ensures;
    }) in
    rw c.as_slice.ensures.value (let t = k.simple.three in omega (arith, t))

pub of_points-frame-requires-clause-reach : goal.of_points-frame-requires-clause-reach
of_points-frame-requires-clause-reach c =
    let k = kept c.in_ok-units.units.items c.args.vertices.now c.in_ok-units.ensures c.requires
    (record {
      three = omega arith;
      sides = c.in_default-first_off_angle.ensures;
      apart = MatchOption-at_none _ _ c.in_default-2.is c.in_ok-first.ensures;
    }) in
    rw c.as_slice.ensures.value (all_reached c.in_ok-units.units.items k.within)

pub invariant_of-result : goal.invariant_of-result
invariant_of-result c =
    let e = c.of_points-frame.ensures in
    let k = kept c.in_ok-units.units.items c.args.vertices.now c.in_ok-units.ensures c.requires
    (record {
      three = omega arith;
      sides = c.in_default-first_off_angle.ensures;
      apart = MatchOption-at_none _ _ c.in_default-2.is c.in_ok-first.ensures;
    }) in
    (k, frame_kept c.in_ok-units.units.items c.as_slice.result.now c.of_points-frame.result c.as_slice.ensures.value k.within e.holds e.least e.oct)
