use Rattle.std.proofs.Common.{◌-◌, length}
use Rattle.board_items.proofs.Doubles.{AreBehind}
use Rattle.board_items.proofs.stack.has_double.Given as goal

abbrev pub invariant-each : goal.invariant-each
invariant-each l = AreBehind (λ t. t.items) l.names (length l.names - l.step) l.behind
