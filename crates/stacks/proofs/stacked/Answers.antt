use Rattle.stacks.proofs.Lists.{stacked_none, stacked_next, stacked_all, same_union}
use Rattle.stacks.proofs.Places.{placed_none, placed_next, placed_all}
use Rattle.stacks.proofs.stacked.Goals as goal

pub each-init : goal.each-init
each-init c = record { stacked = rw (c.new-piles.ensures) stacked_none; placed = rw (c.new-piles.ensures, c.new-places.ensures.items) placed_none }

pub each-preserved : goal.each-preserved
each-preserved c = record {
  stacked = stacked_next c.args.pieces.now c.each.piles _ c.each.i _ c.each-test.true c.index-pieces-i.is c.each.invariant.stacked c.in_ok-place.ensures.put.put c.in_ok-place.ensures.oct;
  placed = rw (c.in_ok-push.ensures.items, c.in_ok-number.ensures)
      (placed_next c.args.pieces.now c.each.piles _ c.each.places.items c.each.i _ _ c.each-test.true c.index-pieces-i.is c.each.invariant.placed c.in_ok-place.ensures.put);
}

pub returns-clause-places : goal.returns-clause-places
returns-clause-places c =
    rw (c.into_stacks-stacks.ensures) (placed_all c.args.pieces.now c.each.piles c.each.places.items c.each.i c.each-test.false c.each.invariant.placed)

pub returns-clause-points : goal.returns-clause-points
returns-clause-points c =
    rw (c.into_stacks-stacks.ensures) (same_union c.args.pieces.now c.each.piles (stacked_all c.args.pieces.now c.each.piles c.each.i c.each-test.false c.each.invariant.stacked))

pub returns-clause-thick : goal.returns-clause-thick
returns-clause-thick c =
    rw (c.into_stacks-stacks.ensures) (stacked_all c.args.pieces.now c.each.piles c.each.i c.each-test.false c.each.invariant.stacked).thick

pub returns-clause-around : goal.returns-clause-around
returns-clause-around c =
    rw (c.into_stacks-stacks.ensures) (stacked_all c.args.pieces.now c.each.piles c.each.i c.each-test.false c.each.invariant.stacked).around

pub returns-clause-count : goal.returns-clause-count
returns-clause-count c =
    rw (c.into_stacks-stacks.ensures) (stacked_all c.args.pieces.now c.each.piles c.each.i c.each-test.false c.each.invariant.stacked).count

pub returns-clause-octs : goal.returns-clause-octs
returns-clause-octs c = (stacked_all c.args.pieces.now c.each.piles c.each.i c.each-test.false c.each.invariant.stacked).octs
