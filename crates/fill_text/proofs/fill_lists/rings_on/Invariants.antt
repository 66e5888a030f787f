use Rattle.std.proofs.Common.{◌≡◌, ◌++◌, map, filter, drop}
use Rattle.std.specs.List.{All}
use Rattle.sexpr_text.specs.Items.{children_of}
use Rattle.rings.specs.Rings.{IsRingInRange}
use Rattle.fill_text.specs.FillLists.{is_fill_on, ring_of, rings_on}
use Rattle.fill_text.proofs.fill_lists.rings_on.Given as goal

abbrev pub invariant-each : goal.invariant-each
invariant-each l = record {
  value : l.rings.items ++ map (ring_of l.zone.bytes) (filter (is_fill_on l.zone.bytes l.name) (drop l.place (children_of l.zone.item))) ≡ rings_on l.zone.bytes l.name l.zone.item;
  range : All IsRingInRange l.rings.items;
}
