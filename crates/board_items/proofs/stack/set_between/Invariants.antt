use Rattle.std.proofs.Common.{◌≡◌, ◌-◌}
use Rattle.board_text.specs.Layers.{bits, between_from}
use Rattle.board_items.proofs.stack.set_between.Given as goal

abbrev pub invariant-each : goal.invariant-each
invariant-each l = l.set ≡ bits (between_from l.a l.b (l.count - l.step) l.step)
