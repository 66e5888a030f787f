use Rattle.std.proofs.Common.{◌≡◌, ◌≤◌, ◌+◌, take}
use Rattle.std.specs.Prelude.{count_by, ◌==◌}
use Rattle.board_model.proofs.lines.line_behind.Given as goal

-- the line of this place
abbrev pub invariant-each : goal.invariant-each
invariant-each l = record {
  few : l.line ≤ l.place + 1;
  count : l.line ≡ 1 + count_by (λ byte. byte == 10) (take l.place l.bytes);
}
