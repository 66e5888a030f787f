use Rattle.bins.specs.Inner.Blocks.{AreInFrame}
use Rattle.bins.proofs.block.frame_round.Given as goal

abbrev pub invariant-each : goal.invariant-each
invariant-each l = AreInFrame l.frame l.octs l.first l.j
