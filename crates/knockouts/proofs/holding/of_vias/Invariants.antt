use Rattle.std.proofs.Common.{◌≡◌, ◌++◌, drop, flat_map}
use Rattle.fill_rules.specs.Tasks.{settings_of}
use Rattle.fill_rules.specs.Anchors.{via_anchors}
use Rattle.knockouts.proofs.holding.of_vias.Given as goal

abbrev pub invariant-each : goal.invariant-each
invariant-each l = l.shapes.items ++ flat_map (via_anchors (settings_of l.zone) l.layer) (drop l.via-index l.vias) ≡ flat_map (via_anchors (settings_of l.zone) l.layer) l.vias
