use Rattle.std.proofs.Common.{◌≡◌, ◌≢◌, ℕ, ◌-◌, ◌<◌, ◌≤◌, [], length, slice_index_or}
use Rattle.desk.specs.Arena.{entries_of, offset_of}
use Rattle.desk.proofs.arena.place_of.Given as goal

abbrev pub invariant-each : goal.invariant-each
invariant-each l = record {
  within : l.index ≤ length l.table;
  offset : l.at ≡ offset_of l.table l.index;
  others : (k : ℕ) → k < l.index → (slice_index_or (entries_of l.table l.bytes) k ([], [])).0 ≢ l.name;
}

abbrev pub decreases-each : goal.decreases-each
decreases-each l = length l.table - l.index
