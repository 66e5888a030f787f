use Rattle.std.proofs.Common.{◌∙◌, ap, sym, arith, map, filter}
use Rattle.sexpr_text.specs.Items.{children_of}
use Rattle.board_text.specs.Lists.{is_list, lists_of}
use Rattle.board_text.specs.Items.{span_of}
use Rattle.board_language.specs.Zones.{is_fill}
use Rattle.board_zones.proofs.Children.{taken_more, taken_not_q, taken_not_p}
use Rattle.board_zones.proofs.spans.fills_of.Goals as goal
use Rattle.board_zones.proofs.spans.fills_of.Goals.{then-is_list+then-is_fill+in_ok-push, else-is_list, else-is_list-via-then-is_list+else-is_fill, else-is_list-via-else-is_list}

pub each-preserved : goal.each-preserved
each-preserved c =
    let all = map span_of (filter (is_fill c.args.zone.now.bytes) (lists_of c.args.zone.now.item)) in
    elim c.if-is_list.branch [
      | then-is_list+then-is_fill+in_ok-push w ↦ rw (w.spans-is, w.in_ok-push.ensures.items, w.span.ensures.from, w.span.ensures.to)
          (taken_more span_of (is_fill c.args.zone.now.bytes) is_list (children_of c.args.zone.now.item) c.each.place c.child-child.result.item c.each.spans.items all
          (omega (arith, c.each-test.true, c.len-place-end.ensures)) c.child-child.ensures.item (sym c.is_list.ensures ∙ w.if-is_list.true)
          (ap (λ b. is_fill b c.child-child.result.item) (sym c.child-child.ensures.bytes) ∙ sym w.is_fill.ensures ∙ w.if-is_fill.true) c.each.invariant)
      | else-is_list w ↦ rw w.spans-is (elim w.else-is_list.branch [
        | else-is_list-via-then-is_list+else-is_fill v ↦ taken_not_p span_of (is_fill c.args.zone.now.bytes) is_list (children_of c.args.zone.now.item) c.each.place c.child-child.result.item c.each.spans.items all
            (omega (arith, c.each-test.true, c.len-place-end.ensures)) c.child-child.ensures.item
            (ap (λ b. is_fill b c.child-child.result.item) (sym c.child-child.ensures.bytes) ∙ sym v.is_fill.ensures ∙ v.if-is_fill.false) c.each.invariant
        | else-is_list-via-else-is_list v ↦ taken_not_q span_of (is_fill c.args.zone.now.bytes) is_list (children_of c.args.zone.now.item) c.each.place c.child-child.result.item c.each.spans.items all
            (omega (arith, c.each-test.true, c.len-place-end.ensures)) c.child-child.ensures.item (sym c.is_list.ensures ∙ v.if-is_list.false) c.each.invariant
      ])
    ]
