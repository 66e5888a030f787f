use Rattle.std.proofs.Common.{map}
use Rattle.fills.specs.Fills.{task_of}
use Rattle.fill_pool.specs.Inner.Tables.{AreByLayer}
use Rattle.fill_pool.proofs.table.by_layer.Given as goal

abbrev pub invariant-each : goal.invariant-each
invariant-each l = AreByLayer (map task_of l.tasks) l.layer (map (λ list. list.items) l.lists.items)
