use Rattle.std.proofs.Common.{◌≡◌, [], map, get_or}
use Rattle.board_text.specs.Layers.{is_among}
use Rattle.fill_rules.specs.Tasks.{layers_below}
use Rattle.fill_text.proofs.fill_layer.is_among.Given as goal

abbrev pub invariant-each : goal.invariant-each
invariant-each l = l.found ≡ is_among (map (λ n. get_or l.layers n []) (layers_below l.set l.layer)) l.name
