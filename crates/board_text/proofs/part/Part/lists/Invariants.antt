use Rattle.std.proofs.Common.{◌≡◌, ◌++◌, map, filter, drop}
use Rattle.sexpr_text.specs.Items.{children_of}
use Rattle.board_text.specs.Lists.{is_list, lists_of}
use Rattle.sexpr_text.specs.Parts.{part_of}
use Rattle.board_text.proofs.part.Part.lists.Given as goal

abbrev pub invariant-each : goal.invariant-each
invariant-each l = l.lists.items ++ map (part_of l.self.bytes) (filter is_list (drop l.place (children_of l.self.item))) ≡ map (part_of l.self.bytes) (lists_of l.self.item)
