use Rattle.std.proofs.Common.{◌≡◌, ◌++◌, map, drop}
use Rattle.board_language.specs.declared.board.Via.{Via}
use Rattle.fill_rules.specs.Nodes.{via, has_net, passing_places}
use Rattle.clusters.specs.Labelling.{node_of}
use Rattle.clusters.proofs.list.add_vias.Given as goal

abbrev pub invariant-each : goal.invariant-each
invariant-each l =
    map (node_of l.board.board) l.nodes.items ++ map via (passing_places (λ (v : Via). has_net v.net) l.k (drop l.k l.vias))
    ≡ map (node_of l.board.board) l.initial.nodes.items ++ map via (passing_places (λ (v : Via). has_net v.net) 0 l.vias)
