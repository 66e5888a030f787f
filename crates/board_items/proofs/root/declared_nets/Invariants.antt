use Rattle.std.proofs.Common.{◌≡◌, ◌++◌, cond, drop, filter_map, None}
use Rattle.std.specs.Prelude.{codes}
use Rattle.sexpr_text.specs.Items.{children_of, is_headed}
use Rattle.board_text.specs.Items.{declared_net}
use Rattle.board_items.proofs.root.declared_nets.Given as goal

abbrev pub invariant-each : goal.invariant-each
invariant-each l =
    l.nets ++ filter_map (λ item. cond (is_headed l.board.bytes (codes "net") item) (declared_net l.board.bytes item) None) (drop l.place (children_of l.board.item))
    ≡ filter_map (λ item. cond (is_headed l.board.bytes (codes "net") item) (declared_net l.board.bytes item) None) (children_of l.board.item)
