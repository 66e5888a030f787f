use Rattle.std.proofs.Common.{◌≡◌, ◌++◌, drop, flat_map, map}
use Rattle.fill_rules.specs.Tasks.{settings_of}
use Rattle.fill_rules.specs.Needs.{via_needs}
use Rattle.knockouts.specs.Obstacles.{need_of}
use Rattle.knockouts.proofs.obstacles.of_vias.Given as goal

abbrev pub invariant-each : goal.invariant-each
invariant-each l =
    map need_of l.needs.items ++ flat_map (via_needs l.board.board (settings_of l.zone) l.layer) (drop l.via-index l.vias) ≡ flat_map (via_needs l.board.board (settings_of l.zone) l.layer) l.vias
