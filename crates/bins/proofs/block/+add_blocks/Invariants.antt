use Rattle.std.proofs.Common.{◌-◌}
use Rattle.bins.proofs.block.+add_blocks.Given as goal

abbrev pub decreases-add_blocks : goal.decreases-add_blocks
decreases-add_blocks l = l.end - l.first
