use Rattle.std.proofs.Common.{◌≡◌, ◌++◌, map}
use Rattle.std.specs.Prelude.{drop}
use Rattle.std.specs.Arc.{arc_value}
use Rattle.fill_pool.specs.Inner.Slots.{filled, made_at}
use Rattle.fill_pool.proofs.copies.copy_row.Given as goal

abbrev pub invariant-each : goal.invariant-each
invariant-each l =
    map arc_value l.into.items ++ map (made_at (map filled l.fills)) (drop l.j-index l.row)
    ≡ map arc_value l.initial.into.items ++ map (made_at (map filled l.fills)) l.row
