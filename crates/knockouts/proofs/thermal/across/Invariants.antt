use Rattle.std.proofs.Common.{◌≡◌, ◌++◌, drop, flat_map}
use Rattle.knockouts.specs.Spokes.{four_spokes}
use Rattle.knockouts.proofs.thermal.across.Given as goal

abbrev pub invariant-each : goal.invariant-each
invariant-each l = l.spokes.items ++ flat_map (four_spokes l.relief) (drop l.hull-index l.hulls) ≡ flat_map (four_spokes l.relief) l.hulls
