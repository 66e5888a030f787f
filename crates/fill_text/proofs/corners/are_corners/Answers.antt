use Rattle.std.proofs.Common.{◌∙◌, ap, sym, arith}
use Rattle.std.specs.List.{list_all}
use Rattle.sexpr_text.specs.Items.{children_of}
use Rattle.board_text.specs.Lists.{behind_head}
use Rattle.fill_text.specs.FillLists.{is_corner}
use Rattle.fill_text.proofs.Passing.{all_stop, all_next, all_passed}
use Rattle.fill_text.proofs.corners.are_corners.Goals as goal

pub returns-then-not-branch : goal.returns-then-not-branch
returns-then-not-branch c =
    let bytes = c.args.points.now.bytes in
    let item = c.args.points.now.item in
    all_stop (is_corner bytes) (children_of item) c.each.place c.child.result.item (list_all (is_corner bytes) (behind_head item)) (omega (arith, c.each-test.true, c.len-place-end.ensures)) c.child.ensures.item
    (ap (λ b. is_corner b c.child.result.item) (sym c.child.ensures.bytes) ∙ sym c.in_ok-is_corner.ensures ∙ c.if-not-branch.true) c.each.invariant

pub each-preserved : goal.each-preserved
each-preserved c =
    let bytes = c.args.points.now.bytes in
    let item = c.args.points.now.item in
    all_next (is_corner bytes) (children_of item) c.each.place c.child.result.item (list_all (is_corner bytes) (behind_head item)) (omega (arith, c.each-test.true, c.len-place-end.ensures)) c.child.ensures.item
    (ap (λ b. is_corner b c.child.result.item) (sym c.child.ensures.bytes) ∙ sym c.in_ok-is_corner.ensures ∙ c.if-not-branch.false) c.each.invariant

pub returns : goal.returns
returns c =
    let bytes = c.args.points.now.bytes in
    let item = c.args.points.now.item in
    all_passed (is_corner bytes) (children_of item) c.each.place (list_all (is_corner bytes) (behind_head item)) (omega (arith, c.each-test.false, c.len-place-end.ensures)) c.each.invariant
