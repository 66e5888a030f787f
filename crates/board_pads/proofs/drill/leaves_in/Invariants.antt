use Rattle.std.proofs.Common.{◌≡◌, ◌++◌, not, map, filter, drop}
use Rattle.sexpr_text.specs.Items.{children_of}
use Rattle.board_text.specs.Lists.{is_list}
use Rattle.sexpr_text.specs.Parts.{part_of}
use Rattle.board_pads.specs.Drills.{leaves_in}
use Rattle.board_pads.proofs.drill.leaves_in.Given as goal

abbrev pub invariant-each : goal.invariant-each
invariant-each l = l.leaves.items ++ map (part_of l.list.bytes) (filter (λ item. not (is_list item)) (drop l.place (children_of l.list.item))) ≡ map (part_of l.list.bytes) (leaves_in l.list.item)
