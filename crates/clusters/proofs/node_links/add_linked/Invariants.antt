use Rattle.std.proofs.Common.{take}
use Rattle.clusters.specs.Inner.Links.{AreAdded}
use Rattle.clusters.proofs.node_links.add_linked.Given as goal

abbrev pub invariant-each : goal.invariant-each
invariant-each l = AreAdded l.patches l.patch (take l.j-index l.met) l.fn.into.items l.into.items
