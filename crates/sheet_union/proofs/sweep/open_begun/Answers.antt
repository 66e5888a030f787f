use Rattle.std.proofs.Common.{refl, arith}
use Rattle.sheet_union.proofs.Opening.{begun_step, waiting_step, begun_stop, waiting_stop, begun_end, waiting_end, begun_row, waiting_row}
use Rattle.sheet_union.proofs.sweep.open_begun.Goals as goal

pub each-init : goal.each-init
each-init c = record { opened = refl; wait = refl; within = c.requires }

pub returns-then-row-y0-clause-opened : goal.returns-then-row-y0-clause-opened
returns-then-row-y0-clause-opened c =
    begun_row _ _ _ c.args.row c.ranges.row
    (begun_stop c.index-octs-place.result c.args.octs.now c.each.place _ _ _ _ c.y0.ensures.oct c.y0.ensures.value c.if-row-y0.true c.each-test.true c.index-octs-place.is c.each.invariant.opened)

pub returns-then-row-y0-clause-waiting : goal.returns-then-row-y0-clause-waiting
returns-then-row-y0-clause-waiting c =
    waiting_row _ _ c.args.row c.ranges.row
    (waiting_stop c.index-octs-place.result c.args.octs.now c.each.place _ _ _ c.y0.ensures.oct c.y0.ensures.value c.if-row-y0.true c.each-test.true c.index-octs-place.is c.each.invariant.wait)

pub each-preserved : goal.each-preserved
each-preserved c = record {
  opened = begun_step c.index-octs-place.result c.args.octs.now c.each.place _ _ _ _ _ c.y0.ensures.oct c.y0.ensures.value c.if-row-y0.false c.each-test.true c.index-octs-place.is
      c.in_ok-push.ensures.items c.each.invariant.opened;
  wait = waiting_step c.index-octs-place.result c.args.octs.now c.each.place _ _ _ c.y0.ensures.oct c.y0.ensures.value c.if-row-y0.false c.each-test.true c.index-octs-place.is c.each.invariant.wait;
  within = omega (arith, c.each-test.true);
}

pub returns-clause-opened : goal.returns-clause-opened
returns-clause-opened c = begun_row _ _ _ c.args.row c.ranges.row (begun_end c.args.octs.now c.each.place _ _ _ c.each-test.false c.each.invariant.opened)

pub returns-clause-waiting : goal.returns-clause-waiting
returns-clause-waiting c = waiting_row _ _ c.args.row c.ranges.row (waiting_end c.args.octs.now c.each.place _ _ c.each-test.false c.each.invariant.wait)

pub returns-clause-place : goal.returns-clause-place
returns-clause-place c = c.each.invariant.within
