use Rattle.std.proofs.Common.{◌⊎◌, take}
use Rattle.std.specs.Prelude.{◌↔◌}
use Rattle.std.specs.List.{All}
use Rattle.plane.specs.Plane.{PlanePoint, IsOct}
use Rattle.slabs.specs.Slabs.{IsOnLevel}
use Rattle.outline_slab.specs.Cuts.{all_edges, IsInSome}
use Rattle.outline_slab.specs.Inner.Wide.{KeepStout}
use Rattle.outline_slab.proofs.slab_octs.with_levels.Given as goal

abbrev pub invariant-each : goal.invariant-each
invariant-each l = record {
  points : (p : PlanePoint) → IsInSome l.octs.items p ↔ (IsInSome l.initial.octs.items p ⊎ IsOnLevel (take l.i (all_edges l.sides)) p);
  kept : KeepStout l.initial.octs.items l.octs.items;
  octs : All IsOct l.octs.items;
}
