use Rattle.std.proofs.Common.{ℕ, ◌<◌}
use Rattle.std.specs.Prelude.{◌↔◌}
use Rattle.std.specs.List.{All}
use Rattle.plane.specs.Plane.{PlanePoint, IsOct}
use Rattle.plane.specs.Covering.{Edge}
use Rattle.slabs.specs.Slabs.{IsPairAt, IsAmid}
use Rattle.outline_slab.specs.Cuts.{all_edges, IsInSome}
use Rattle.outline_slab.specs.Filled.{IsInStout}
use Rattle.outline_slab.specs.Inner.Wide.{IsInWidePairUpTo}
use Rattle.outline_slab.proofs.slab_octs.pair_octs.Given as goal

-- the octagons are those of the pairs so far
abbrev pub invariant-pair : goal.invariant-pair
invariant-pair l = record {
  points : (p : PlanePoint) → IsInSome l.octs.items p ↔ ((i : ℕ) × (a : Edge) × (b : Edge) × (i < l.j) × IsPairAt (all_edges l.cuts) i a b × IsAmid a b p);
  wide : (p : PlanePoint) → IsInWidePairUpTo l.j (all_edges l.cuts) p → IsInStout l.octs.items p;
  octs : All IsOct l.octs.items;
}
