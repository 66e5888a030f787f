use Rattle.scan_rows.proofs.Portions.{begun, slab_done, finished}
use Rattle.scan_rows.proofs.slabs.without_all.Goals as goal

pub marks-init : goal.marks-init
marks-init c = begun c.args.others.now c.args.octs.now _ _ _ c.requires c.new-done.ensures.items c.in_ok-left.ensures.items c.in_ok-later.ensures.items

pub marks-preserved : goal.marks-preserved
marks-preserved c =
    slab_done c.args.others.now c.args.octs.now c.marks.done.items c.marks.left.items c.marks.later.items c.in_ok-slab.slab.items c.in_ok-near.near.items c.add_left.new.done.items
    c.in_ok-left-2.left.items c.in_ok-later-2.later.items c.mark-item.result.y0 c.marks.invariant
    (rw c.deref.ensures.value at c.in_ok-slab.ensures)
    (rw c.deref-in-marks.ensures.value at c.in_ok-near.ensures)
    (rw (c.deref-in-marks-2.ensures.value, c.deref-in-marks-3.ensures.value) at c.in_ok-add_left.ensures)
    (rw c.deref-in-marks-4.ensures.value at c.in_ok-left-2.ensures)
    (rw c.deref-in-marks-5.ensures.value at c.in_ok-later-2.ensures)

pub returns : goal.returns
returns c =
    finished c.args.others.now c.args.octs.now c.marks.done.items c.marks.left.items c.marks.later.items c.add_left-2.new.done.items c.marks.invariant
    (rw (c.deref-2.ensures.value, c.deref-3.ensures.value) at c.in_ok-add_left-2.ensures)
