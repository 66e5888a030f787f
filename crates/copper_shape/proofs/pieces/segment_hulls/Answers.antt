use Rattle.std.proofs.Common.{arith}
use Rattle.std.proofs.lemmas.Int.{ints}
use Rattle.cores.specs.Room.{spot}
use Rattle.copper_shape.proofs.Cuts.{pieces_step, pieces_end, code_segment}
use Rattle.copper_shape.proofs.pieces.segment_hulls.Goals as goal

pub each-preserved : goal.each-preserved
each-preserved c =
    pieces_step (spot c.args.from) (spot c.args.to) c.piece_count-count.result c.args.radius c.each.i c.each.hulls.items _ _
    c.each-test.true c.each.invariant c.in_ok-piece_hull.ensures c.in_ok-push.ensures.items

pub returns : goal.returns
returns c =
    code_segment (spot c.args.from) (spot c.args.to) c.args.radius c.piece_count-count.result c.abs_diff.result c.abs_diff-2.result c.each.hulls.items
    c.piece_count-count.ensures.value
    (omega (arith, ints, c.abs_diff.ensures, c.requires.from.x, c.requires.to.x)) (omega (arith, ints, c.abs_diff-2.ensures, c.requires.from.y, c.requires.to.y))
    (pieces_end (spot c.args.from) (spot c.args.to) c.piece_count-count.result c.args.radius c.each.i c.each.hulls.items (omega arith) c.each.invariant)
