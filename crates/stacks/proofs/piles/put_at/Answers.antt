use Rattle.std.proofs.Common.{refl, arith}
use Rattle.stacks.proofs.Lists.{put_to_set}
use Rattle.stacks.proofs.piles.put_at.Goals as goal

pub returns-in-Some-clause-put : goal.returns-in-Some-clause-put
returns-in-Some-clause-put c = λ t.
    put_to_set c.args.stacks.now.items c.args.place c.index.result.now c.index-2.result.now c.args.piece.now c.in-Some.stack (omega (arith, c.len.ensures, c.args.stacks.now.ok, c.if-place-len.false))
    c.index.ensures c.index-2.ensures (c.if-not-meets.ensures.0 refl) c.in-Some.ensures.hull c.in-Some.ensures.points
