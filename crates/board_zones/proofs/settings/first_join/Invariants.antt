use Rattle.std.proofs.Common.{◌≡◌, map, drop}
use Rattle.board_language.specs.Zones.{first_join}
use Rattle.board_zones.proofs.settings.first_join.Given as goal

abbrev pub invariant-each : goal.invariant-each
invariant-each l = first_join (map (λ t. t.items) (drop l.text-index l.texts)) ≡ first_join (map (λ t. t.items) l.texts)
