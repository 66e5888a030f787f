use Rattle.std.proofs.Common.{arith}
use Rattle.std.specs.Prelude.{◌<ℤ◌}
use Rattle.scan_rows.proofs.Portions.{agree_none, agree_more, agree_all, ended_test, seen_top, seen_bottom}
use Rattle.scan_rows.proofs.slabs.ended_from.Goals as goal

pub each-init : goal.each-init
each-init c = agree_none (λ y. ¬ (y <ℤ c.args.mark.now.y0)) _ c.new-ended.ensures.items

pub each-preserved : goal.each-preserved
each-preserved c =
    agree_more (λ y. ¬ (y <ℤ c.args.mark.now.y0)) c.oct-item.result c.args.octs.now c.each.ended.items c.push_if.new.octs.items c.each.oct-index _ c.each-test.true c.oct-item.is
    (ended_test c.oct-item.result c.args.mark.now c.is_less-passed.result _ _ (seen_bottom c.oct-item.result c.y1.result c.y1.ensures.value c.y1.ensures.oct)
    (seen_top c.args.mark.now c.y0.result c.y0.ensures.value c.y0.ensures.oct) c.is_less-passed.ensures) c.each.invariant c.in_ok-push_if.ensures

pub returns : goal.returns
returns c = agree_all (λ y. ¬ (y <ℤ c.args.mark.now.y0)) c.args.octs.now c.each.ended.items c.each.oct-index (omega (arith, c.each-test.false)) c.each.invariant
