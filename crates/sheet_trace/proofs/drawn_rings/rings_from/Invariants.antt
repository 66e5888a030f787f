use Rattle.std.proofs.Common.{◌≡◌, ◌++◌, map}
use Rattle.sheet_trace.specs.Inner.Outlines.{corners_in}
use Rattle.sheet_trace.proofs.drawn_rings.rings_from.Given as goal

-- those so far and those to come are all
abbrev pub invariant-each : goal.invariant-each
invariant-each l = l.rings.items ++ map corners_in l.drawn-iterator.rest.items ≡ map corners_in l.fn.drawings.items
