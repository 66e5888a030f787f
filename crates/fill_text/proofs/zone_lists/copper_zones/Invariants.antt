use Rattle.std.proofs.Common.{◌≡◌, ◌++◌, map, filter, drop}
use Rattle.sexpr_text.specs.Items.{children_of}
use Rattle.sexpr_text.specs.Parts.{part_of}
use Rattle.board_text.specs.Lists.{is_list}
use Rattle.board_text.specs.Items.{context_of}
use Rattle.fill_text.specs.FillLists.{is_copper_zone, zones_in}
use Rattle.fill_text.proofs.zone_lists.copper_zones.Given as goal

abbrev pub invariant-each : goal.invariant-each
invariant-each l =
    l.zones.items
    ++ map (part_of l.root.bytes) (filter (is_copper_zone (context_of l.root.bytes l.root.item)) (filter is_list (drop l.place (children_of l.root.item))))
    ≡ map (part_of l.root.bytes) (zones_in l.root.bytes l.root.item)
