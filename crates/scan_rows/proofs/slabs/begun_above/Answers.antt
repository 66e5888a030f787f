use Rattle.std.proofs.Common.{arith}
use Rattle.std.specs.Prelude.{◌<ℤ◌}
use Rattle.scan_rows.proofs.Portions.{agree_none, agree_more, agree_all, begun_test, seen_top}
use Rattle.scan_rows.proofs.slabs.begun_above.Goals as goal

pub each-init : goal.each-init
each-init c = agree_none (λ y. y <ℤ c.args.mark.now.y0) _ c.new-begun.ensures.items

pub each-preserved : goal.each-preserved
each-preserved c =
    agree_more (λ y. y <ℤ c.args.mark.now.y0) c.oct-item.result c.args.octs.now c.each.begun.items c.push_if.new.octs.items c.each.oct-index _ c.each-test.true c.oct-item.is
    (begun_test c.oct-item.result c.args.mark.now c.is_less-wanted.result _ _ (seen_top c.oct-item.result c.y0.result c.y0.ensures.value c.y0.ensures.oct)
    (seen_top c.args.mark.now c.y0-in-each.result c.y0-in-each.ensures.value c.y0-in-each.ensures.oct) c.is_less-wanted.ensures) c.each.invariant c.in_ok-push_if.ensures

pub returns : goal.returns
returns c = agree_all (λ y. y <ℤ c.args.mark.now.y0) c.args.octs.now c.each.begun.items c.each.oct-index (omega (arith, c.each-test.false)) c.each.invariant
