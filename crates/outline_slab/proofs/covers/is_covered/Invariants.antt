use Rattle.std.proofs.Common.{ℕ, ◌<◌, take}
use Rattle.std.specs.Prelude.{◌↔◌, IsTrue, sum_by, slice_index_or}
use Rattle.plane.specs.Plane.{PlanePoint}
use Rattle.plane.specs.Covering.{Edge, IsOn, IsOdd, crossing, edges_of}
use Rattle.outline_slab.specs.Places.{IsPlaceAt}
use Rattle.outline_slab.proofs.covers.is_covered.Given as goal

-- the place is on no side so far, and `inside` tells whether an odd number of them was crossed
abbrev pub invariant-each : goal.invariant-each
invariant-each l = record {
  parity : (q : PlanePoint) → IsPlaceAt l.p l.scale q → IsTrue l.inside ↔ IsOdd (sum_by (crossing q) (take l.i (edges_of l.corners)));
  off : (q : PlanePoint) → IsPlaceAt l.p l.scale q → (k : ℕ) (d : Edge) → k < l.i → IsOn (slice_index_or (edges_of l.corners) k d) q → ⊥;
}
