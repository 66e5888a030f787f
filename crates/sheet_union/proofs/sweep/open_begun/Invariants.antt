use Rattle.std.proofs.Common.{◌≡◌, ◌≤◌, ◌++◌, ◌-◌, length, drop}
use Rattle.sheet_union.specs.Inner.Sweep.{begun, waiting}
use Rattle.sheet_union.proofs.sweep.open_begun.Given as goal

-- what is opened so far and from the place on is all; what waits is the same from there on
abbrev pub invariant-each : goal.invariant-each
invariant-each l = record {
  opened : l.opened.items ++ begun l.row (drop l.place l.octs) ≡ l.fn.opened.items ++ begun l.row (drop l.next l.octs);
  wait : waiting l.row (drop l.place l.octs) ≡ waiting l.row (drop l.next l.octs);
  within : l.place ≤ length l.octs;
}

abbrev pub decreases-each : goal.decreases-each
decreases-each l = length l.octs - l.place
