use Rattle.std.proofs.lemmas.Result.{IfOk-weaker}
use Rattle.std.specs.Prelude.{◌⊎◌, ◌↔◌}
use Rattle.plane.specs.Plane.{PlanePoint}
use Rattle.plane.specs.Covering.{Covers, StrictlyCovers}
use Rattle.slabs.specs.Slabs.{AreCuts, IsOnLevel, IsInPair}
use Rattle.outline_slab.specs.Cuts.{all_edges, IsInSome}
use Rattle.outline_slab.proofs.Octs.{closed_rows, all_two, covered}
use Rattle.outline_slab.specs.Filled.{AreFilling}
use Rattle.outline_slab.specs.Inner.Wide.{IsInWidePair, KeepStout}
use Rattle.outline_slab.proofs.Filled.{filling}
use Rattle.outline_slab.proofs.slab_octs.covered_octs.Goals as goal

pub pair_octs-requires : goal.pair_octs-requires
pair_octs-requires c =
    let es = all_edges c.args.sides.now in
    let rows = c.in_ok-rows.rows.items in
    let closed = closed_rows rows es c.in_ok-rows.ensures c.requires.closed in
    let cuts : AreCuts rows es (all_edges c.in_ok-cuts_of.field-0.items) = rw (c.deref.ensures.value) at c.in_ok-cuts_of.ensures in
    rw c.deref-2.ensures.value (all_two rows es (all_edges c.in_ok-cuts.cuts.items) closed c.requires.sound (c.in_ok-cuts.ensures.cuts rows es cuts) c.in_ok-cuts.ensures.order)

pub returns-clause-points : goal.returns-clause-points
returns-clause-points c =
    let es = all_edges c.args.sides.now in
    let rows = c.in_ok-rows.rows.items in
    let cs = all_edges c.in_ok-cuts.cuts.items in
    let closed = closed_rows rows es c.in_ok-rows.ensures c.requires.closed in
    let cuts : AreCuts rows es (all_edges c.in_ok-cuts_of.field-0.items) = rw (c.deref.ensures.value) at c.in_ok-cuts_of.ensures in
    let first = c.in_ok-pair_octs.field-0.items in
    let pairs : (p : PlanePoint) → IsInSome first p ↔ IsInPair cs p = rw (c.deref-2.ensures.value) at c.in_ok-pair_octs.ensures.points in
    IfOk-weaker c.with_levels.result (λ v. (p : PlanePoint) → IsInSome v.items p ↔ (IsInSome first p ⊎ IsOnLevel es p)) (λ v. (p : PlanePoint) → IsInSome v.items p ↔ Covers es p)
    (λ v a p. covered rows es cs first v.items p closed (c.in_ok-cuts.ensures.cuts rows es cuts) c.in_ok-cuts.ensures.order (pairs p) (a p))
    c.with_levels.ensures.points

pub returns-clause-filling : goal.returns-clause-filling
returns-clause-filling c =
    let es = all_edges c.args.sides.now in
    let rows = c.in_ok-rows.rows.items in
    let cs = all_edges c.in_ok-cuts.cuts.items in
    let closed = closed_rows rows es c.in_ok-rows.ensures c.requires.closed in
    let cuts : AreCuts rows es (all_edges c.in_ok-cuts_of.field-0.items) = rw (c.deref.ensures.value) at c.in_ok-cuts_of.ensures in
    let first = c.in_ok-pair_octs.field-0.items in
    let pairs : AreFilling first (IsInWidePair cs) = rw (c.deref-2.ensures.value) at c.in_ok-pair_octs.ensures.wide in
    IfOk-weaker c.with_levels.result (λ v. KeepStout first v.items) (λ v. AreFilling v.items (StrictlyCovers es))
    (λ v a. filling rows es cs first v.items closed (c.in_ok-cuts.ensures.cuts rows es cuts) c.in_ok-cuts.ensures.order pairs a)
    c.with_levels.ensures.kept
