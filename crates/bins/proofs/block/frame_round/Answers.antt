use Rattle.std.proofs.Common.{arith}
use Rattle.bins.proofs.Blocks.{framed_one, framed_more}
use Rattle.bins.proofs.block.frame_round.Goals as goal

pub each-init : goal.each-init
each-init c = framed_one c.frame_of-frame.result c.args.octs.now c.args.first _ (omega (arith, c.requires.some, c.requires.within)) c.index-octs-first.is c.frame_of-frame.ensures

pub each-preserved : goal.each-preserved
each-preserved c =
    framed_more c.each.frame c.grown-frame.result c.args.octs.now c.args.first c.each.j _ (omega (arith, c.each-test.true, c.requires.within)) c.index-octs-j.is c.grown-frame.ensures.old
    c.grown-frame.ensures.new c.each.invariant

pub returns : goal.returns
returns c j o a b = c.each.invariant j o a (omega (arith, b, c.each-test.false, c.requires.some))
