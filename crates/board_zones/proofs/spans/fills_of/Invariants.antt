use Rattle.std.proofs.Common.{◌≡◌, ◌++◌, map, filter, drop}
use Rattle.sexpr_text.specs.Items.{children_of}
use Rattle.board_text.specs.Lists.{is_list, lists_of}
use Rattle.board_text.specs.Items.{span_of}
use Rattle.board_language.specs.Zones.{is_fill}
use Rattle.board_zones.proofs.spans.fills_of.Given as goal

abbrev pub invariant-each : goal.invariant-each
invariant-each l =
    l.spans.items ++ map span_of (filter (is_fill l.zone.bytes) (filter is_list (drop l.place (children_of l.zone.item)))) ≡ map span_of (filter (is_fill l.zone.bytes) (lists_of l.zone.item))
