use Rattle.std.proofs.Common.{◌≡◌, ◌*◌, ◌-◌, ◌≤◌}
use Rattle.run_rules.specs.Items.{items_after}
use Rattle.run_rules.proofs.items.items_in.Given as goal

-- what the rows that are left make of the walk is what all make of its start
abbrev pub invariant-rows : goal.invariant-rows
invariant-rows l = record {
  items : items_after l.size l.walk.state l.walk.items (l.size - l._row) ≡ items_after l.size l.seed 0 l.size;
  most : l.walk.items ≤ 200 * l._row;
}
