use Rattle.std.proofs.Common.{◌≢◌, ℕ, ◌-◌, ◌<◌, ◌≤◌, [], length, map, slice_index_or}
use Rattle.desk.specs.Folder.{entry}
use Rattle.desk.proofs.folder.place_of.Given as goal

abbrev pub invariant-each : goal.invariant-each
invariant-each l = (l.at ≤ length l.files) × ((k : ℕ) → k < l.at → (slice_index_or (map entry l.files) k ([], [])).0 ≢ l.name)

abbrev pub decreases-each : goal.decreases-each
decreases-each l = length l.files - l.at
