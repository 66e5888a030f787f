use Rattle.std.proofs.Common.{arith}
use Rattle.stacks.proofs.Lists.{put_to_more}
use Rattle.stacks.proofs.piles.Piles.begin.Goals as goal

pub returns : goal.returns
returns c =
    rw (c.note.ensures, ← c.self.view_is, c.in_ok-push.ensures.items)
    (put_to_more c.self.inside.stacks.items c.args.piece.now c.len-place.result (omega (arith, c.len-place.ensures, c.self.inside.stacks.ok)))
