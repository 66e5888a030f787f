use Rattle.std.proofs.Common.{map}
use Rattle.fills.specs.Fills.{task_of}
use Rattle.fill_pool.specs.Inner.Tables.{ArePlacesOn}
use Rattle.fill_pool.proofs.table.places_on.Given as goal

abbrev pub invariant-each : goal.invariant-each
invariant-each l = ArePlacesOn (map task_of l.tasks) l.layer l.i l.places.items
