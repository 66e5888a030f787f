use Rattle.std.proofs.Common.{◌+◌, ◌*◌, ◌-◌, length}
use Rattle.spreading.specs.Inner.Flood.{IsFlooding, how_many}
use Rattle.spreading.proofs.flood.flooded.Given as goal

abbrev pub invariant-each : goal.invariant-each
invariant-each g l = IsFlooding (g.L.Links.count_of l.links) (g.L.Links.are_linked l.links) l.first l.fn.labels.items l.done l.members.items l.labels.items

abbrev pub decreases-each : goal.decreases-each
decreases-each g l = (length l.members.items + 2 * how_many (g.L.Links.count_of l.links) l.labels.items) - l.done
