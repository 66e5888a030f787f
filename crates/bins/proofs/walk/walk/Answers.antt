use Rattle.std.proofs.Common.{arith}
use Rattle.bins.proofs.Walks.{walk_begun, walk_end}
use Rattle.bins.proofs.walk.walk.Goals as goal

pub walk-init : goal.walk-init
walk-init c = (omega arith, rw (c.requires.empty) (walk_begun c.args.octs.now c.args.blocks.now c.args.oct.now c.requires.blocks))

pub returns : goal.returns
returns c = walk_end c.args.octs.now c.args.blocks.now c.args.oct.now c.walk.at _ c.walk.invariant.0 c.walk-test.false c.walk.invariant.1
