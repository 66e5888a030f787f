use Rattle.touching.specs.Inner.Decision.{end_of, top, top_right, right, bottom_right}
use Rattle.cores.specs.Room.{spot}
use Rattle.cores.proofs.AreaTests.{four, side_test}
use Rattle.cores.proofs.sides.is_right_close.Goals as goal

pub returns : goal.returns
unfolding end_of
returns c =
    let b = c.args.b.now in
    let s = spot c.args.s in
    let t = spot c.args.t in
    four _ _ _ _ _ _ _ _ _ c.any.ensures
    (side_test _ c.args.a b top s t _ _ c.top_start-first.ensures.value c.top_right_start-second.ensures.value c.are_lines_close.ensures)
    (side_test _ c.args.a b top_right s t _ _ c.top_right_start-second.ensures.value c.right_start-third.ensures.value c.are_lines_close-2.ensures)
    (side_test _ c.args.a b right s t _ _ c.right_start-third.ensures.value c.bottom_right_start-fourth.ensures.value c.are_lines_close-3.ensures)
    (side_test _ c.args.a b bottom_right s t _ _ c.bottom_right_start-fourth.ensures.value c.bottom_start-fifth.ensures.value c.are_lines_close-4.ensures)
