use Rattle.std.proofs.Common.{refl, arith, length}
use Rattle.std.proofs.lemmas.Option.{slice_get_read}
use Rattle.islands.proofs.Marking.{label_below, marks_set, marks_stay, marks_old}
use Rattle.islands.proofs.held.marked.Goals as goal
use Rattle.islands.proofs.held.marked.Goals.{then-is_new, else-is_new}

pub is_new-requires-clause-label : goal.is_new-requires-clause-label
is_new-requires-clause-label c =
    let l = label_below c.args.octs.now c.args.labels.now c.requires.parts c.each.k c.each-test.true in
    rw c.deref.ensures.value (omega (arith, l, c.each.invariant.count))

pub mark-requires : goal.mark-requires
mark-requires c =
    let l = label_below c.args.octs.now c.args.labels.now c.requires.parts c.each.k c.each-test.true in
    omega (arith, l, c.each.invariant.count)

pub each-preserved : goal.each-preserved
each-preserved c =
    let there = slice_get_read c.args.octs.now (length c.args.octs.now) c.each.k c.index-octs-k.result refl c.each-test.true c.index-octs-k.is in
    elim c.if-is_new.branch [
      | then-is_new w ↦ rw (w.marks-is, w.mark.ensures)
          (marks_set c.args.octs.now c.args.labels.now c.args.anchors.now c.args.live.now c.each.k c.each.marks.items c.index-octs-k.result
          there c.each.invariant (c.is_new.ensures.new w.if-is_new.true))
      | else-is_new w ↦ rw w.marks-is
          (marks_stay c.args.octs.now c.args.labels.now c.args.anchors.now c.args.live.now c.each.k c.each.marks.items c.index-octs-k.result
          there c.each.invariant (marks_old c.args.anchors.now c.args.live.now c.index-octs-k.result _ c.is_new.result w.if-is_new.false
          (rw c.deref.ensures.value at c.is_new.ensures.old)))
    ]
