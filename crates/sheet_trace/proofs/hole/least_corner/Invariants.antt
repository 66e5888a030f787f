use Rattle.std.proofs.Common.{◌≡◌, drop}
use Rattle.sheet_trace.specs.Inner.Turns.{least_start}
use Rattle.sheet_trace.proofs.hole.least_corner.Given as goal

-- of the least so far and those to come the least is the least of all
abbrev pub invariant-each : goal.invariant-each
invariant-each l = least_start l.least (drop l.edge-index l.walk) ≡ least_start l.fn.first l.walk
