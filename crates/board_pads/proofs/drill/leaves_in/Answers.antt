use Rattle.std.proofs.Common.{◌∙◌, map, not, sym, ap, arith}
use Rattle.sexpr_text.specs.Items.{children_of}
use Rattle.board_text.specs.Lists.{is_list}
use Rattle.sexpr_text.specs.Parts.{part_of}
use Rattle.board_text.proofs.Walks.{kept_more, kept_not, kept_all}
use Rattle.board_pads.specs.Drills.{leaves_in}
use Rattle.board_pads.proofs.drill.leaves_in.Goals as goal
use Rattle.board_pads.proofs.drill.leaves_in.Goals.{then-not-is_list+in_ok-push, else-not-is_list}

pub each-preserved : goal.each-preserved
each-preserved c =
    let all = map (part_of c.args.list.now.bytes) (leaves_in c.args.list.now.item) in
    elim c.if-not-is_list.branch [
      | then-not-is_list+in_ok-push w ↦ rw (w.leaves-is, w.in_ok-push.ensures.items)
          (kept_more c.args.list.now.bytes (λ item. not (is_list item)) (children_of c.args.list.now.item) c.each.place c.each.leaves.items all c.child-child.result (omega (arith, c.each-test.true, c.len-place-end.ensures))
          c.child-child.ensures.bytes c.child-child.ensures.item (ap not (sym c.is_list.ensures ∙ w.if-not-is_list.true)) c.each.invariant)
      | else-not-is_list w ↦ rw w.leaves-is
          (kept_not c.args.list.now.bytes (λ item. not (is_list item)) (children_of c.args.list.now.item) c.each.place c.each.leaves.items all c.child-child.result.item (omega (arith, c.each-test.true, c.len-place-end.ensures))
          c.child-child.ensures.item (ap not (sym c.is_list.ensures ∙ w.if-not-is_list.false)) c.each.invariant)
    ]
