use Rattle.std.proofs.Common.{arith}
use Rattle.clusters.proofs.StackParts.{of_one_part, read_points, read_many}
use Rattle.clusters.proofs.fill_stacks.stacks_of_fill.Goals as goal

pub parts_of_stacks-requires-clause-one : goal.parts_of_stacks-requires-clause-one
parts_of_stacks-requires-clause-one c =
    rw (c.deref.ensures.value)
    (of_one_part c.args.pieces.now c.in_ok-stacking.stacking.stacks.items c.in_ok-stacking.stacking.places.items c.args.parts.now c.in_ok-stacking.ensures.places c.requires.parts)

pub returns-clause-points : goal.returns-clause-points
returns-clause-points c =
    read_points c.args.pieces.now c.in_ok-stacking.stacking.stacks.items c.in_ok-stacking.stacking.places.items c.args.parts.now c.in_ok-parts.parts.items c.deref.result.now c.len.result
    c.in_ok-stacking.ensures.places c.requires.parts.each c.deref.ensures.value (omega (arith, c.len.ensures, c.in_ok-stacking.stacking.stacks.ok)) c.in_ok-parts.ensures

pub returns-clause-near : goal.returns-clause-near
returns-clause-near c = record {
  count = read_many c.deref.result.now c.args.parts.now c.in_ok-parts.parts.items c.len.result c.in_ok-stacking.stacking.stacks.items
      (omega (arith, c.len.ensures, c.in_ok-stacking.stacking.stacks.ok)) c.in_ok-parts.ensures;
  near = c.in_ok-stacking.ensures.around 250000000 c.requires.near;
}
