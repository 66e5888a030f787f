use Rattle.copper_shape.proofs.Cuts.{slanted_count, other_count}
use Rattle.copper_shape.proofs.pieces.piece_count.Goals as goal

pub returns-then-is_slanted-clause-value : goal.returns-then-is_slanted-clause-value
returns-then-is_slanted-clause-value c =
    slanted_count c.args.width c.args.height c.max.result c.div_ceil.result c.max-then-is_slanted.result c.min.result c.is_slanted.result
    c.is_slanted.ensures c.if-is_slanted.true c.max.ensures c.div_ceil.ensures c.max-then-is_slanted.ensures c.min.ensures

pub returns-else-is_slanted-clause-value : goal.returns-else-is_slanted-clause-value
returns-else-is_slanted-clause-value c = other_count c.args.width c.args.height c.is_slanted.result c.is_slanted.ensures c.if-is_slanted.false
