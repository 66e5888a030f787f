use Rattle.std.proofs.Common.{◌≡◌, ◌++◌, drop}
use Rattle.sheet_trace.specs.Edges.{strip_sides}
use Rattle.sheet_trace.proofs.sides.sides_of.Given as goal

-- those so far and those to come are all
abbrev pub invariant-each : goal.invariant-each
invariant-each l = l.sides.items ++ strip_sides (drop l.strip-index l.strips) ≡ strip_sides l.strips
