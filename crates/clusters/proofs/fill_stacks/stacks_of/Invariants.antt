use Rattle.std.proofs.Common.{map}
use Rattle.std.specs.List.{All}
use Rattle.std.specs.Arc.{arc_value}
use Rattle.clusters.specs.Inner.Stacks.{AreNearStacks, AreFillStacks}
use Rattle.clusters.proofs.fill_stacks.stacks_of.Given as goal

abbrev pub invariant-each : goal.invariant-each
invariant-each l = record {
  stacks : AreFillStacks (map arc_value l.fills) l.rank l.all.items;
  near : All AreNearStacks l.all.items;
}
