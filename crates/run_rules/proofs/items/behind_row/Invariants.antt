use Rattle.std.proofs.Common.{◌≡◌, ◌+◌, ◌-◌, ◌≤◌}
use Rattle.board_gen.specs.Generated.{state_after, number_after_cells}
use Rattle.run_rules.proofs.items.behind_row.Given as goal

-- what the cells that are left make of the walk is what all make of its start
abbrev pub invariant-cells : goal.invariant-cells
invariant-cells l = record {
  state : state_after l.state (l.size - l._column) ≡ state_after l.fn.walk.state l.size;
  items : number_after_cells l.state l.items (l.size - l._column) ≡ number_after_cells l.fn.walk.state l.fn.walk.items l.size;
  most : l.items ≤ l.fn.walk.items + l._column;
}
