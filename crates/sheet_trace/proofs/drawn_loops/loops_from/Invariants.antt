use Rattle.std.proofs.Common.{◌≡◌, ◌++◌, map}
use Rattle.sheet_trace.specs.Inner.Order.{loop_in}
use Rattle.sheet_trace.proofs.drawn_loops.loops_from.Given as goal

-- those so far and those to come are all
abbrev pub invariant-each : goal.invariant-each
invariant-each l = l.loops.items ++ map loop_in l.drawn-iterator.rest.items ≡ map loop_in l.fn.drawings.items
