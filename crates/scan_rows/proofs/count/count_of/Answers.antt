use Rattle.std.proofs.Common.{rules, ◌+◌, ◌<◌, ◌^◌}
use Rattle.std.proofs.Common.{take}
use Rattle.scan_rows.proofs.Closed.{counted_none, counted_more, counted_fits}
use Rattle.scan_rows.proofs.count.count_of.Goals as goal

pub overflow_add-total : goal.overflow_add-total
overflow_add-total c =
    let m = counted_more c.oct-item.result c.args.octs.now c.octs.oct-index c.octs.total c.points_of-total.result c.requires c.octs-test.true c.oct-item.is c.points_of-total.ensures.oct c.octs.invariant c.points_of-total.ensures.count in
    let h : c.octs.total + c.points_of-total.result < 2 ^ 128 = counted_fits (take (c.octs.oct-index + 1) c.args.octs.now) (c.octs.total + c.points_of-total.result) m in
    search rules

pub octs-init : goal.octs-init
octs-init c = counted_none

pub octs-preserved : goal.octs-preserved
octs-preserved c = counted_more c.oct-item.result c.args.octs.now c.octs.oct-index c.octs.total c.points_of-total.result c.requires c.octs-test.true c.oct-item.is c.points_of-total.ensures.oct c.octs.invariant c.points_of-total.ensures.count
