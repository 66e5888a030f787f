use Rattle.std.proofs.Common.{arith, refl}
use Rattle.plane.specs.Plane.{IsOct}
use Rattle.sheet_union.proofs.Walks.{all_step, all_end, each_more, each_all}
use Rattle.sheet_union.proofs.rows.found_rows.Goals as goal

pub each-init : goal.each-init
each-init c = record { rows = rw c.new-rows.ensures.items refl; octs = λ k d l m. absurd (omega (arith, l)) }

pub each-preserved : goal.each-preserved
each-preserved c = record {
  rows = all_step c.index-octs-i.result c.args.octs.now c.each.i _ _ _ c.each-test.true c.index-octs-i.is c.in_ok-put_rows_of.ensures.rows c.each.invariant.rows;
  octs = each_more IsOct c.index-octs-i.result c.args.octs.now c.each.i c.index-octs-i.is c.in_ok-put_rows_of.ensures.oct c.each.invariant.octs;
}

pub returns-clause-rows : goal.returns-clause-rows
returns-clause-rows c = all_end c.args.octs.now c.each.i _ _ c.each-test.false c.each.invariant.rows

pub returns-clause-octs : goal.returns-clause-octs
returns-clause-octs c = each_all IsOct c.args.octs.now c.each.i c.each-test.false c.each.invariant.octs
