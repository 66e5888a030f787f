use Rattle.std.proofs.Common.{◌≡◌, ◌+◌, ◌*◌, ◌-◌, ◌≤◌, ◌++◌}
use Rattle.board_gen.specs.Generated.{rows_text}
use Rattle.board_gen.proofs.board.add_rows.Given as goal

-- what was added, and what the rows that are left add, is all
abbrev pub invariant-rows : goal.invariant-rows
invariant-rows l = record {
  text : l.out.items ++ rows_text l.size l.row l.walk.state l.walk.number (l.size - l.row) ≡ l.fn.out.items ++ rows_text l.size 0 l.fn.seed 1 l.size;
  most : l.walk.number ≤ 1 + 200 * l.row;
}
