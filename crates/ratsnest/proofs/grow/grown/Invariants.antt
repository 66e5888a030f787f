use Rattle.std.proofs.Common.{length}
use Rattle.ratsnest.proofs.Growing.{Growing}
use Rattle.ratsnest.proofs.grow.grown.Given as goal

abbrev pub invariant-grow : goal.invariant-grow
invariant-grow l = Growing l.anchors l.pairs.items l.left.items

abbrev pub decreases-grow : goal.decreases-grow
decreases-grow l = length l.left.items
