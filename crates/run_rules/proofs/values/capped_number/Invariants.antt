use Rattle.std.proofs.Common.{◌≡◌, ◌≤◌, min, drop}
use Rattle.grid_num.specs.Spelling.{number, number_after}
use Rattle.run_rules.proofs.values.capped_number.Given as goal

abbrev pub invariant-digits : goal.invariant-digits
invariant-digits l = record {
  small : l.sum ≤ 18446744073709551616;
  same : min 18446744073709551616 (number_after l.sum (drop l.digit-index l.digits)) ≡ min 18446744073709551616 (number l.digits);
}
