use Rattle.std.proofs.Common.{◌≡◌, filter, drop}
use Rattle.sexpr_text.specs.Items.{children_of}
use Rattle.fill_text.specs.FillLists.{is_bad, bad_among, names_of_set}
use Rattle.fill_text.proofs.fill_lists.try_zone.Given as goal

abbrev pub invariant-each : goal.invariant-each
invariant-each l = filter (is_bad l.zone.bytes (names_of_set l.layers l.set)) (drop l.place (children_of l.zone.item)) ≡ bad_among l.zone.bytes (names_of_set l.layers l.set) l.zone.item
