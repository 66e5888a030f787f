use Rattle.std.proofs.Common.{◌≡◌, ◌≤◌, min, drop}
use Rattle.grid_num.specs.Spelling.{number, number_after}
use Rattle.board_text.proofs.number.capped_number.Given as goal

abbrev pub invariant-loop-digit : goal.invariant-loop-digit
invariant-loop-digit l = record {
  small : l.sum ≤ 4294967296;
  same : min 4294967296 (number_after l.sum (drop l.digit-index l.digits)) ≡ min 4294967296 (number l.digits);
}
