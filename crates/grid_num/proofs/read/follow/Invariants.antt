use Rattle.std.proofs.Common.{◌≡◌, ◌≤◌, min, drop}
use Rattle.grid_num.specs.Spelling.{number_after}
use Rattle.grid_num.proofs.read.follow.Given as goal

abbrev pub invariant-loop-digit : goal.invariant-loop-digit
invariant-loop-digit l = record {
  small : l.sum ≤ l.beyond;
  same : min l.beyond (number_after l.sum (drop l.digit-index l.digits)) ≡ min l.beyond (number_after l.before l.digits);
}
