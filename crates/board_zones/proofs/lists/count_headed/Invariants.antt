use Rattle.std.proofs.Common.{◌≡◌, ◌≤◌, ◌+◌, length, filter, drop}
use Rattle.sexpr_text.specs.Items.{is_headed, children_of}
use Rattle.board_text.specs.Lists.{headed}
use Rattle.board_zones.proofs.lists.count_headed.Given as goal

abbrev pub invariant-each : goal.invariant-each
invariant-each l = record {
  few : l.count ≤ l.place;
  sum : l.count + length (filter (is_headed l.item.bytes l.name) (drop l.place (children_of l.item.item))) ≡ length (headed l.item.bytes l.name l.item.item);
}
