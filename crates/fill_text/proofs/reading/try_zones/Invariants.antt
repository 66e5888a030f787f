use Rattle.std.proofs.Common.{◌≡◌, drop}
use Rattle.std.specs.List.{flat_map}
use Rattle.board_text.specs.Items.{context_of}
use Rattle.fill_text.specs.FillLists.{zones_in, bad_of_zone, bad_fills}
use Rattle.fill_text.proofs.reading.try_zones.Given as goal

abbrev pub invariant-each : goal.invariant-each
invariant-each l = flat_map (bad_of_zone (context_of l.root.bytes l.root.item)) (drop l.k (zones_in l.root.bytes l.root.item)) ≡ bad_fills l.root.bytes l.root.item
