use Rattle.std.specs.Prelude.{◌↔◌}
use Rattle.std.proofs.lemmas.Result.{IfOk-weaker}
use Rattle.plane.specs.Plane.{PlanePoint}
use Rattle.plane.specs.Covering.{Covers, StrictlyCovers, edges_of}
use Rattle.slabs.specs.Outside.{IsOutside}
use Rattle.outline_slab.specs.Cuts.{all_edges, IsInSome}
use Rattle.outline_slab.specs.Filled.{AreFilling, IsLeftOver}
use Rattle.outline_slab.proofs.LeftOver.{filling_outside}
use Rattle.outline_slab.proofs.Frames.{both_edges, closed_both, sound_both, outside_of}
use Rattle.outline_slab.proofs.Outline.outer.Goals as goal

pub covered_octs-requires-clause-closed : goal.covered_octs-requires-clause-closed
covered_octs-requires-clause-closed c =
    let vs = c.self.inside.vertices.items in
    let b = c.args.frame.now in
    let e = both_edges c.new.result.items c.in_ok-sides.sides.items c.in_ok-sides-2.sides.items c.deref.result.now c.as_slice.result.now vs c.corners_of.result b
    c.new.ensures.items c.as_slice.ensures.value c.in_ok-sides.ensures c.corners_of.ensures.corners c.in_ok-sides-2.ensures c.deref.ensures.value in
    rw e (closed_both vs b c.self.invariant.0.simple (rw c.self.view_is c.requires))

pub covered_octs-requires-clause-sound : goal.covered_octs-requires-clause-sound
covered_octs-requires-clause-sound c =
    let vs = c.self.inside.vertices.items in
    let b = c.args.frame.now in
    let e = both_edges c.new.result.items c.in_ok-sides.sides.items c.in_ok-sides-2.sides.items c.deref.result.now c.as_slice.result.now vs c.corners_of.result b
    c.new.ensures.items c.as_slice.ensures.value c.in_ok-sides.ensures c.corners_of.ensures.corners c.in_ok-sides-2.ensures c.deref.ensures.value in
    rw e (sound_both vs b c.self.invariant.0 (rw c.self.view_is c.requires) c.corners_of.ensures.oct)

pub returns-clause-points : goal.returns-clause-points
returns-clause-points c =
    let vs = c.self.inside.vertices.items in
    let b = c.args.frame.now in
    let es = all_edges c.deref.result.now in
    let e = both_edges c.new.result.items c.in_ok-sides.sides.items c.in_ok-sides-2.sides.items c.deref.result.now c.as_slice.result.now vs c.corners_of.result b
    c.new.ensures.items c.as_slice.ensures.value c.in_ok-sides.ensures c.corners_of.ensures.corners c.in_ok-sides-2.ensures c.deref.ensures.value in
    rw (← c.self.view_is)
    (IfOk-weaker c.covered_octs.result (λ v. (p : PlanePoint) → IsInSome v.items p ↔ Covers es p) (λ v. (p : PlanePoint) → IsInSome v.items p ↔ IsOutside (edges_of vs) b p)
    (λ v a p. outside_of vs b v.items es p c.self.invariant.0.simple (rw c.self.view_is c.requires) e (a p)) c.covered_octs.ensures.points)

pub returns-clause-filling : goal.returns-clause-filling
returns-clause-filling c =
    let vs = c.self.inside.vertices.items in
    let b = c.args.frame.now in
    let es = all_edges c.deref.result.now in
    let e = both_edges c.new.result.items c.in_ok-sides.sides.items c.in_ok-sides-2.sides.items c.deref.result.now c.as_slice.result.now vs c.corners_of.result b
    c.new.ensures.items c.as_slice.ensures.value c.in_ok-sides.ensures c.corners_of.ensures.corners c.in_ok-sides-2.ensures c.deref.ensures.value in
    rw (← c.self.view_is)
    (IfOk-weaker c.covered_octs.result (λ v. AreFilling v.items (StrictlyCovers es)) (λ v. AreFilling v.items (IsLeftOver (edges_of vs) b))
    (λ v a. filling_outside vs b v.items es c.self.invariant.0.simple (rw c.self.view_is c.requires) e a) c.covered_octs.ensures.filling)
