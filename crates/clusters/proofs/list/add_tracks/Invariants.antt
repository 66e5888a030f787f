use Rattle.std.proofs.Common.{◌≡◌, ◌++◌, map, drop}
use Rattle.board_language.specs.declared.board.Track.{Track}
use Rattle.fill_rules.specs.Nodes.{track, has_net, passing_places}
use Rattle.clusters.specs.Labelling.{node_of}
use Rattle.clusters.proofs.list.add_tracks.Given as goal

abbrev pub invariant-each : goal.invariant-each
invariant-each l =
    map (node_of l.board.board) l.nodes.items ++ map track (passing_places (λ (t : Track). has_net t.net) l.k (drop l.k l.tracks))
    ≡ map (node_of l.board.board) l.initial.nodes.items ++ map track (passing_places (λ (t : Track). has_net t.net) 0 l.tracks)
