use Rattle.std.proofs.Common.{◌≡◌, ◌++◌, map, drop}
use Rattle.fill_rules.specs.Tasks.{task_at}
use Rattle.fill_rules.specs.Nodes.{part, firsts_from}
use Rattle.clusters.specs.Labelling.{node_of}
use Rattle.clusters.proofs.list.add_firsts.Given as goal

abbrev pub invariant-each : goal.invariant-each
invariant-each l =
    map (node_of l.board.board) l.nodes.items ++ map (part (task_at l.board.board l.rank)) (firsts_from l.k (drop l.k l.parts))
    ≡ map (node_of l.board.board) l.initial.nodes.items ++ map (part (task_at l.board.board l.rank)) (firsts_from 0 l.parts)
