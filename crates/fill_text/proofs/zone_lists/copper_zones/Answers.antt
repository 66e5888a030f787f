use Rattle.std.proofs.Common.{◌∙◌, ap, sym, arith, map}
use Rattle.sexpr_text.specs.Items.{children_of}
use Rattle.sexpr_text.specs.Parts.{part_of}
use Rattle.board_text.specs.Lists.{is_list}
use Rattle.board_text.specs.Items.{context_of}
use Rattle.board_items.specs.Known.{context}
use Rattle.board_zones.proofs.Children.{taken_more, taken_not_q, taken_not_p}
use Rattle.fill_text.specs.FillLists.{is_copper_zone, zones_in}
use Rattle.fill_text.proofs.zone_lists.copper_zones.Goals as goal
use Rattle.fill_text.proofs.zone_lists.copper_zones.Goals.{then-is_list+in_ok-is_copper_zone+then-branch+in_ok-push, else-is_list, else-is_list-via-then-is_list+in_ok-is_copper_zone+else-branch, else-is_list-via-else-is_list}

pub each-preserved : goal.each-preserved
each-preserved c =
    let bytes = c.args.root.now.bytes in
    let root = c.args.root.now.item in
    let all = map (part_of bytes) (zones_in bytes root) in
    let x = c.child-list.result in
    let known = ap (λ b. is_copper_zone (context b c.in_ok-known.known) c.child-list.result.item) (sym c.child-list.ensures.bytes) in
    let same = ap (λ i. is_copper_zone i c.child-list.result.item) (sym c.in_ok-known.ensures) in
    elim c.if-is_list.branch [
      | then-is_list+in_ok-is_copper_zone+then-branch+in_ok-push w ↦ rw (w.zones-is, w.in_ok-push.ensures.items, c.child-list.ensures.bytes)
          (taken_more (part_of bytes) (is_copper_zone (context_of bytes root)) is_list (children_of root) c.each.place c.child-list.result.item c.each.zones.items all
          (omega (arith, c.each-test.true, c.len-place-end.ensures)) c.child-list.ensures.item (sym c.is_list.ensures ∙ w.if-is_list.true)
          (same ∙ known ∙ sym w.in_ok-is_copper_zone.ensures ∙ w.if-branch.true) c.each.invariant)
      | else-is_list w ↦ rw w.zones-is (elim w.else-is_list.branch [
        | else-is_list-via-then-is_list+in_ok-is_copper_zone+else-branch v ↦ taken_not_p (part_of bytes) (is_copper_zone (context_of bytes root)) is_list (children_of root) c.each.place c.child-list.result.item c.each.zones.items all
            (omega (arith, c.each-test.true, c.len-place-end.ensures)) c.child-list.ensures.item
            (same ∙ known ∙ sym v.in_ok-is_copper_zone.ensures ∙ v.if-branch.false) c.each.invariant
        | else-is_list-via-else-is_list v ↦ taken_not_q (part_of bytes) (is_copper_zone (context_of bytes root)) is_list (children_of root) c.each.place c.child-list.result.item c.each.zones.items all
            (omega (arith, c.each-test.true, c.len-place-end.ensures)) c.child-list.ensures.item (sym c.is_list.ensures ∙ v.if-is_list.false) c.each.invariant
      ])
    ]
