use Rattle.std.proofs.Common.{◌≡◌, map, take}
use Rattle.fill_rules.specs.Clusters.{node_net}
use Rattle.clusters.specs.Labelling.{node_of}
use Rattle.clusters.proofs.reading.nets_of.Given as goal

abbrev pub invariant-each : goal.invariant-each
invariant-each l = l.nets.items ≡ map (node_net l.board.board) (map (node_of l.board.board) (take l.k l.nodes))
