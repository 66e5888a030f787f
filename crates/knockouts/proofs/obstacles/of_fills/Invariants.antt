use Rattle.std.proofs.Common.{◌≡◌, ◌++◌, drop, flat_map, map}
use Rattle.std.specs.Arc.{arc_value}
use Rattle.fill_rules.specs.Tasks.{settings_of}
use Rattle.knockouts.specs.Obstacles.{need_of, fill_needs}
use Rattle.knockouts.proofs.obstacles.of_fills.Given as goal

abbrev pub invariant-each : goal.invariant-each
invariant-each l =
    map need_of l.needs.items ++ flat_map (fill_needs l.board.board (settings_of l.zone)) (map arc_value (drop l.fill-index l.above))
    ≡ flat_map (fill_needs l.board.board (settings_of l.zone)) (map arc_value l.above)
