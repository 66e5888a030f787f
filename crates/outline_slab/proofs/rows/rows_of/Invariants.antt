use Rattle.std.proofs.Common.{◌≡◌, ℕ, ◌<◌, length}
use Rattle.std.specs.Prelude.{slice_index_or}
use Rattle.std.specs.List.{All}
use Rattle.outline_slab.specs.Inner.Search.{IsRow}
use Rattle.outline_slab.specs.declared.rows.Row.{Row}
use Rattle.outline_slab.proofs.rows.rows_of.Given as goal

abbrev pub invariant-each : goal.invariant-each
invariant-each l = record {
  each : All (IsRow l.corners) l.rows.items;
  count : length l.rows.items ≡ l.i;
  index : (u : ℕ) (d : Row) → u < l.i → (slice_index_or l.rows.items u d).index ≡ u;
}
