use Rattle.std.proofs.Common.{sym, arith}
use Rattle.bins.proofs.Blocks.{no_blocks, blocks_whole}
use Rattle.bins.proofs.block.blocks_of.Goals as goal
use Rattle.bins.proofs.block.blocks_of.Goals.{then-count-gt0+in_ok-add_blocks, else-count-gt0}

pub returns : goal.returns
returns c = elim c.if-count-gt0.branch [
  | then-count-gt0+in_ok-add_blocks w ↦ rw (w.blocks-is)
      (blocks_whole c.args.octs.now _ (rw (sym c.in_ok-count.ensures, sym c.new-blocks.ensures.items) w.in_ok-add_blocks.ensures))
  | else-count-gt0 w ↦ rw (w.blocks-is, c.new-blocks.ensures.items)
      (no_blocks c.args.octs.now (let e = c.in_ok-count.ensures in omega (arith, e, w.if-count-gt0.false)))
]
