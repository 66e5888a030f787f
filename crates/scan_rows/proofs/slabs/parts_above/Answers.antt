use Rattle.std.proofs.Common.{arith}
use Rattle.std.specs.Prelude.{◌<ℤ◌}
use Rattle.scan_rows.proofs.Portions.{no_parts, parts_more, parts_all}
use Rattle.scan_rows.proofs.slabs.parts_above.Goals as goal

pub each-init : goal.each-init
each-init c = no_parts (λ y. y <ℤ c.args.mark.now.y0) _ c.new-parts.ensures.items

pub each-preserved : goal.each-preserved
each-preserved c =
    parts_more (λ y. y <ℤ c.args.mark.now.y0) c.oct-item.result c.args.octs.now c.each.parts.items c.add_upper.new.parts.items c.each.oct-index c.requires c.each-test.true c.oct-item.is c.each.invariant c.in_ok-add_upper.ensures

pub returns : goal.returns
returns c = parts_all (λ y. y <ℤ c.args.mark.now.y0) c.args.octs.now c.each.parts.items c.each.oct-index (omega (arith, c.each-test.false)) c.each.invariant
