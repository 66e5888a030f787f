use Rattle.std.proofs.Common.{◌≤◌, length}
use Rattle.islands.specs.Inner.Firsts.{AreFirstOf}
use Rattle.islands.proofs.firsts.firsts_of.Given as goal

abbrev pub invariant-each : goal.invariant-each
invariant-each l = record {
  below : l.n ≤ length l.places;
  first : AreFirstOf l.places l.classes l.n l.firsts.items;
}

abbrev pub decreases-each : goal.decreases-each
decreases-each l = l.n
