use Rattle.std.proofs.Common.{◌≡◌, ◌++◌, drop}
use Rattle.sheet_union.specs.Inner.Sweep.{reaching_below}
use Rattle.sheet_union.proofs.sweep.still_open.Given as goal

-- those so far and those to come are all
abbrev pub invariant-each : goal.invariant-each
invariant-each l = l.open.items ++ reaching_below l.row (drop l.oct-index l.octs) ≡ reaching_below l.row l.octs
