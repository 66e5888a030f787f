use Rattle.spreading.specs.Inner.Flood.{ArePartly}
use Rattle.spreading.proofs.flood.labels.Given as goal

abbrev pub invariant-each : goal.invariant-each
invariant-each g l = ArePartly (g.L.Links.count_of l.links) (g.L.Links.are_linked l.links) l.first l.labels.items
