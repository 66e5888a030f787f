use Rattle.std.proofs.Common.{◌≡◌, ◌++◌, map, drop}
use Rattle.std.specs.Prelude.{flat_map}
use Rattle.std.specs.Arc.{arc_value}
use Rattle.fill_rules.specs.Tasks.{task_at}
use Rattle.fill_rules.specs.Nodes.{part_nodes}
use Rattle.clusters.specs.Labelling.{node_of}
use Rattle.clusters.proofs.list.add_parts.Given as goal

abbrev pub invariant-each : goal.invariant-each
invariant-each l =
    map (node_of l.board.board) l.nodes.items ++ flat_map (part_nodes l.board.board (map arc_value l.fills)) (drop l.k (map (task_at l.board.board) l.ranks.items))
    ≡ map (node_of l.board.board) l.initial.nodes.items ++ flat_map (part_nodes l.board.board (map arc_value l.fills)) (map (task_at l.board.board) l.ranks.items)
