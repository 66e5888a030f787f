use Rattle.std.proofs.Common.{◌≡◌, ◌++◌, map, drop}
use Rattle.fill_rules.specs.Nodes.{pad, is_pad_node, passing_places}
use Rattle.clusters.specs.Labelling.{node_of}
use Rattle.clusters.proofs.list.add_pads.Given as goal

abbrev pub invariant-each : goal.invariant-each
invariant-each l =
    map (node_of l.board.board) l.nodes.items ++ map pad (passing_places is_pad_node l.k (drop l.k l.pads))
    ≡ map (node_of l.board.board) l.initial.nodes.items ++ map pad (passing_places is_pad_node 0 l.pads)
