use Rattle.std.proofs.Common.{map, length}
use Rattle.std.specs.List.{All}
use Rattle.std.specs.Arc.{arc_value}
use Rattle.fill_rules.specs.Nodes.{nodes_of}
use Rattle.clusters.specs.Inner.Patches.{IsPatch}
use Rattle.clusters.specs.Inner.Copper.{AreNodePatches}
use Rattle.clusters.proofs.patches.patches_of.Given as goal

abbrev pub invariant-each : goal.invariant-each
invariant-each l = record {
  patches : AreNodePatches l.board.board (map arc_value l.fills) (nodes_of l.board.board (map arc_value l.fills)) l.k l.patches.items;
  each : All (IsPatch (length l.nodes)) l.patches.items;
}
