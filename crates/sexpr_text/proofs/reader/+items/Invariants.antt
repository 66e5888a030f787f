use Rattle.std.proofs.Common.{◌+◌, ◌-◌, ◌*◌, ◌≤◌, length}
use Rattle.sexpr_text.specs.Inner.Run.{Takes, Through}
use Rattle.sexpr_text.proofs.reader.+items.Given as goal

abbrev pub decreases-list : goal.decreases-list
decreases-list l = 3 * l.room

abbrev pub decreases-item : goal.decreases-item
decreases-item l = 3 * l.room + 1

abbrev pub decreases-items : goal.decreases-items
decreases-items l = 3 * l.room + 2

abbrev pub invariant-items-each : goal.invariant-items-each
invariant-items-each l = record {
  within : l.at ≤ length l.bytes;
  forward : l.start ≤ l.at;
  so_far : Takes l.bytes l.room l.start l.at l.fn.store l.store;
  through : Through l.bytes l.room l.start l.at;
}

abbrev pub decreases-items-each : goal.decreases-items-each
decreases-items-each l = length l.bytes - l.at
