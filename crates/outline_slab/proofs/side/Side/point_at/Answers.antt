use Rattle.std.proofs.Common.{arith}
use Rattle.std.proofs.lemmas.Int.{ints}
use Rattle.outline_slab.specs.Inner.Side.{side_edge}
use Rattle.outline_slab.proofs.Sides.{place_right, place_left, place_straight}
use Rattle.outline_slab.proofs.side.Side.point_at.Goals as goal

pub returns-then-self-clause-place : goal.returns-then-self-clause-place
returns-then-self-clause-place c =
    let r = c.requires.reach in
    place_right (side_edge c.args.self) c.args.row _ c.requires.octilinear c.requires.after c.requires.before (omega (arith, ints)) (omega (arith, ints))

pub returns-then-self-2-clause-place : goal.returns-then-self-2-clause-place
returns-then-self-2-clause-place c =
    let r = c.requires.reach in
    place_left (side_edge c.args.self) c.args.row _ c.requires.octilinear c.requires.after c.requires.before (omega (arith, ints)) (omega (arith, ints))

pub returns-else-self-2-clause-place : goal.returns-else-self-2-clause-place
returns-else-self-2-clause-place c =
    let r = c.requires.reach in
    place_straight (side_edge c.args.self) c.args.row _ c.requires.octilinear c.requires.after c.requires.before (omega (arith, ints)) (omega (arith, ints))
