use Rattle.std.proofs.Common.{◌≡◌}
use Rattle.std.specs.List.{flat_map}
use Rattle.fill_rules.specs.Tasks.{layers_below}
use Rattle.fill_text.specs.Zone.{layer_text}
use Rattle.fill_text.proofs.zone.zone_text.Given as goal

abbrev pub invariant-each : goal.invariant-each
invariant-each l = l.text.items ≡ flat_map (layer_text l.it.board.now.board l.it.traced.now l.zone) (layers_below l.layers l.layer)
