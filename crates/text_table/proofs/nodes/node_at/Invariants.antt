use Rattle.std.proofs.Common.{◌<◌, length}
use Rattle.text_table.proofs.nodes.node_at.Given as goal

-- the node is one of the tree's
abbrev pub invariant-heads : goal.invariant-heads
invariant-heads l = l.id < length l.tree
