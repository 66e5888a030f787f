use Rattle.std.proofs.Common.{◌≡◌, ◌++◌, map, drop}
use Rattle.std.specs.Prelude.{flat_map, zip}
use Rattle.std.specs.Arc.{arc_value}
use Rattle.fill_rules.specs.Nodes.{nodes_of}
use Rattle.fill_rules.specs.Clusters.{node_anchors}
use Rattle.clusters.proofs.anchors.anchors_of.Given as goal

abbrev pub invariant-each : goal.invariant-each
invariant-each l =
    l.anchors.items ++ flat_map (node_anchors l.board.board (map arc_value l.fills) l.net) (zip (drop l.k (nodes_of l.board.board (map arc_value l.fills))) (drop l.k l.labelling.label.items))
    ≡ flat_map (node_anchors l.board.board (map arc_value l.fills) l.net) (zip (nodes_of l.board.board (map arc_value l.fills)) l.labelling.label.items)
