use Rattle.std.proofs.Common.{◌≡◌, ◌+◌, ◌-◌, ◌≤◌, ◌++◌}
use Rattle.board_gen.specs.Generated.{row_text, state_after, number_after_cells}
use Rattle.board_gen.proofs.item.add_row.Given as goal

-- what was added, and what the cells that are left add, is all
abbrev pub invariant-cells : goal.invariant-cells
invariant-cells l = record {
  text : l.out.items ++ row_text l.row l.column l.state l.number (l.size - l.column) ≡ l.fn.out.items ++ row_text l.row 0 l.fn.walk.state l.fn.walk.number l.size;
  state : state_after l.state (l.size - l.column) ≡ state_after l.fn.walk.state l.size;
  number : number_after_cells l.state l.number (l.size - l.column) ≡ number_after_cells l.fn.walk.state l.fn.walk.number l.size;
  most : l.number ≤ l.fn.walk.number + l.column;
}
