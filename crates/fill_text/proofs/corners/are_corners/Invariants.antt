use Rattle.std.proofs.Common.{◌≡◌, drop}
use Rattle.std.specs.List.{list_all}
use Rattle.sexpr_text.specs.Items.{children_of}
use Rattle.board_text.specs.Lists.{behind_head}
use Rattle.fill_text.specs.FillLists.{is_corner}
use Rattle.fill_text.proofs.corners.are_corners.Given as goal

abbrev pub invariant-each : goal.invariant-each
invariant-each l = list_all (is_corner l.points.bytes) (drop l.place (children_of l.points.item)) ≡ list_all (is_corner l.points.bytes) (behind_head l.points.item)
