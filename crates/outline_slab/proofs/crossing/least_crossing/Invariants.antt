use Rattle.std.proofs.Common.{ℕ, ◌<◌, length}
use Rattle.outline_slab.specs.Inner.Search.{MissesLater, IsFound}
use Rattle.outline_slab.proofs.crossing.least_crossing.Given as goal

abbrev pub invariant-place : goal.invariant-place
invariant-place l = record {
  found : IsFound l.corners l.best;
  missed : (u : ℕ) → u < l.place → MissesLater l.corners l.rows.items l.best u (length l.rows.items);
}
