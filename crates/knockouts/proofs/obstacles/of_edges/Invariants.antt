use Rattle.std.proofs.Common.{◌≡◌, ◌++◌, drop, flat_map, map}
use Rattle.fill_rules.specs.Needs.{edge_needs}
use Rattle.knockouts.specs.Obstacles.{need_of}
use Rattle.knockouts.proofs.obstacles.of_edges.Given as goal

abbrev pub invariant-each : goal.invariant-each
invariant-each l =
    map need_of l.needs.items ++ flat_map (edge_needs l.board.board) (drop l.edge-index l.edges) ≡ flat_map (edge_needs l.board.board) l.edges
