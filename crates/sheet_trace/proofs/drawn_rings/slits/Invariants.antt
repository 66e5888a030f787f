use Rattle.std.proofs.Common.{◌≡◌, ◌++◌, drop}
use Rattle.plane.specs.Edges.{both_ways}
use Rattle.rings.specs.Rings.{holes_of}
use Rattle.rings.specs.Inner.Tracing.{slits_by}
use Rattle.sheet_trace.specs.Edges.{edges_in}
use Rattle.sheet_trace.specs.Inner.Order.{loops_in}
use Rattle.sheet_trace.proofs.drawn_rings.slits.Given as goal

-- those so far and those to come are all
abbrev pub invariant-each : goal.invariant-each
invariant-each l =
    edges_in l.slits.items ++ both_ways (slits_by (edges_in l.edges) (holes_of (loops_in (drop l.drawn-index l.loops))))
    ≡ both_ways (slits_by (edges_in l.edges) (holes_of (loops_in l.loops)))
