use Rattle.std.proofs.Common.{◌≡◌, ◌≤◌, min, drop}
use Rattle.grid_num.specs.Spelling.{number_after}
use Rattle.board_pads.proofs.decimal.follow.Given as goal

abbrev pub invariant-each : goal.invariant-each
invariant-each l = record {
  small : l.sum ≤ l.most;
  same : min l.most (number_after l.sum (drop l.digit-index l.digits)) ≡ min l.most (number_after l.before l.digits);
}
