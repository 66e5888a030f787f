use Rattle.std.proofs.Common.{◌∙◌, map, sym, arith}
use Rattle.sexpr_text.specs.Items.{children_of}
use Rattle.board_text.specs.Lists.{is_list, lists_of}
use Rattle.sexpr_text.specs.Parts.{part_of}
use Rattle.board_text.proofs.Walks.{kept_more, kept_not, kept_all}
use Rattle.board_text.proofs.part.Part.lists.Goals as goal
use Rattle.board_text.proofs.part.Part.lists.Goals.{then-is_list+in_ok-push, else-is_list}

pub each-preserved : goal.each-preserved
each-preserved c =
    let all = map (part_of c.args.self.now.bytes) (lists_of c.args.self.now.item) in
    elim c.if-is_list.branch [
      | then-is_list+in_ok-push w ↦ rw (w.lists-is, w.in_ok-push.ensures.items)
          (kept_more c.args.self.now.bytes is_list (children_of c.args.self.now.item) c.each.place c.each.lists.items all c.child-child.result (omega (arith, c.each-test.true, c.len-place-end.ensures))
          c.child-child.ensures.bytes c.child-child.ensures.item (sym c.is_list.ensures ∙ w.if-is_list.true) c.each.invariant)
      | else-is_list w ↦ rw w.lists-is
          (kept_not c.args.self.now.bytes is_list (children_of c.args.self.now.item) c.each.place c.each.lists.items all c.child-child.result.item (omega (arith, c.each-test.true, c.len-place-end.ensures))
          c.child-child.ensures.item (sym c.is_list.ensures ∙ w.if-is_list.false) c.each.invariant)
    ]

pub returns : goal.returns
returns c =
    kept_all c.args.self.now.bytes is_list (children_of c.args.self.now.item) c.each.place c.each.lists.items (map (part_of c.args.self.now.bytes) (lists_of c.args.self.now.item))
    (omega (arith, c.each-test.false, c.len-place-end.ensures)) c.each.invariant
