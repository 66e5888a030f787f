use Rattle.std.proofs.Common.{◌≡◌, ◌++◌, drop, flat_map}
use Rattle.fill_rules.specs.Tasks.{settings_of}
use Rattle.fill_rules.specs.Anchors.{pad_anchors}
use Rattle.knockouts.proofs.holding.of_pads.Given as goal

abbrev pub invariant-each : goal.invariant-each
invariant-each l = l.shapes.items ++ flat_map (pad_anchors (settings_of l.zone) l.layer) (drop l.pad-index l.pads) ≡ flat_map (pad_anchors (settings_of l.zone) l.layer) l.pads
