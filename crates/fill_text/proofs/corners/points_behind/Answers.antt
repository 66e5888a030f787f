use Rattle.std.proofs.Common.{◌∙◌, ap, arith, map, Some}
use Rattle.std.proofs.lemmas.List.Elements.{All-push}
use Rattle.grid_num.specs.Length.{IsInRange}
use Rattle.sexpr_text.specs.Items.{children_of}
use Rattle.board_text.specs.Items.{point_at}
use Rattle.board_text.specs.Lists.{behind_head}
use Rattle.fill_text.proofs.Passing.{read_more, read_all}
use Rattle.fill_text.proofs.corners.points_behind.Goals as goal

pub each-preserved : goal.each-preserved
each-preserved c =
    let bytes = c.args.points.now.bytes in
    let item = c.args.points.now.item in
    rw c.in_ok-push.ensures.items (record {
      value = read_more (λ corner. point_at bytes (Some corner)) (children_of item) c.each.place c.child.result.item c.in_ok-corner.corner c.each.corners.items (map (λ corner. point_at bytes (Some corner)) (behind_head item))
          (omega (arith, c.each-test.true, c.len-place-end.ensures)) c.child.ensures.item
          (c.in_ok-corner.ensures.value ∙ ap (λ b. point_at b (Some c.child.result.item)) c.child.ensures.bytes) c.each.invariant.value;
      range = All-push (λ p. IsInRange p.x × IsInRange p.y) c.each.corners.items c.in_ok-corner.corner c.each.invariant.range c.in_ok-corner.ensures.range;
    })

pub returns-clause-value : goal.returns-clause-value
returns-clause-value c =
    let bytes = c.args.points.now.bytes in
    let item = c.args.points.now.item in
    read_all (λ corner. point_at bytes (Some corner)) (children_of item) c.each.place c.each.corners.items (map (λ corner. point_at bytes (Some corner)) (behind_head item))
    (omega (arith, c.each-test.false, c.len-place-end.ensures)) c.each.invariant.value
