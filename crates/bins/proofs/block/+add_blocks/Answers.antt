use Rattle.std.proofs.Common.{refl, ◌≡◌, length, arith}
use Rattle.bins.proofs.Blocks.{leaf_more, halves_more}
use Rattle.bins.proofs.block.+add_blocks.Goals as goal

pub returns-then-block : goal.returns-then-block
returns-then-block t c =
    leaf_more c.args.octs.now c.args.blocks.now.items _ _ c.in_ok-push.ensures.items c.if-block.true (omega (arith, c.len-at.ensures, c.args.blocks.now.ok)) c.requires.some c.requires.within c.frame_round.ensures

pub returns : goal.returns
returns t c =
    let at : c.len-at.result ≡ length c.args.blocks.now.items = omega (arith, c.len-at.ensures, c.args.blocks.now.ok) in
    let skip : c.len-skip.result ≡ length c.add_blocks-2.new.blocks.items = omega (arith, c.len-skip.ensures, c.add_blocks-2.new.blocks.ok) in
    halves_more c.args.octs.now c.args.blocks.now.items c.push.new.self.items c.add_blocks.new.blocks.items c.add_blocks-2.new.blocks.items _ _ _ c.in_ok-push.ensures.items
    c.in_ok-add_blocks.ensures c.in_ok-add_blocks-2.ensures (rw (at, skip) refl) c.if-block.false c.requires.some c.requires.within c.frame_round.ensures
