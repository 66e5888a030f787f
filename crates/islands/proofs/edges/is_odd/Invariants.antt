use Rattle.islands.proofs.Crossings.{IsParity}
use Rattle.islands.proofs.edges.is_odd.Given as goal

abbrev pub invariant-each : goal.invariant-each
invariant-each l = IsParity l.edges l.at l.edge-index l.odd
