use Rattle.std.proofs.Common.{◌≡◌, drop, find}
use Rattle.sexpr_text.specs.Items.{children_of}
use Rattle.board_text.specs.Items.{is_stamp_list, stamp_list}
use Rattle.board_text.proofs.part.Part.stamp_list.Given as goal

abbrev pub invariant-each : goal.invariant-each
invariant-each l = find (is_stamp_list l.self.bytes) (drop l.place (children_of l.self.item)) ≡ stamp_list l.self.bytes l.self.item
