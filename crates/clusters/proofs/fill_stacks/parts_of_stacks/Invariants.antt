use Rattle.clusters.specs.Inner.Stacks.{AreStackParts}
use Rattle.clusters.proofs.fill_stacks.parts_of_stacks.Given as goal

abbrev pub invariant-each : goal.invariant-each
invariant-each l = AreStackParts l.places l.parts l.count l.j l.firsts.items
