use Rattle.std.proofs.Common.{◌≡◌, ◌++◌, drop, flat_map}
use Rattle.fill_rules.specs.Tasks.{settings_of}
use Rattle.knockouts.specs.Spokes.{thermal_spokes}
use Rattle.knockouts.proofs.thermal.of_pads.Given as goal

abbrev pub invariant-each : goal.invariant-each
invariant-each l = l.spokes.items ++ flat_map (thermal_spokes (settings_of l.zone) l.layer) (drop l.pad-index l.pads) ≡ flat_map (thermal_spokes (settings_of l.zone) l.layer) l.pads
