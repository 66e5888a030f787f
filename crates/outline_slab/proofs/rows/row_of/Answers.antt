use Rattle.std.proofs.Common.{subst, ◌↔◌, ap, arith}
use Rattle.std.specs.Prelude.{ℤ}
use Rattle.std.proofs.lemmas.Int.{ints}
use Rattle.plane.specs.Plane.{PlanePoint, In}
use Rattle.plane.specs.Covering.{Edge, IsOn}
use Rattle.outline_slab.proofs.Crossings.{side_octilinear}
use Rattle.outline_slab.proofs.rows.row_of.Goals as goal

pub returns-clause-row : goal.returns-clause-row
returns-clause-row c =
    let x : Edge → ℤ = λ e. e.start.y in
    let y : Edge → ℤ = λ e. e.finish.y in
    let s = ap x c.side_at-side.ensures.edge in
    let f = ap y c.side_at-side.ensures.edge in
    record {
      within = c.requires.within;
      top_start = omega (arith, ints);
      top_finish = omega (arith, ints);
      bottom_start = omega (arith, ints);
      bottom_finish = omega (arith, ints);
      hull = subst (λ (e : Edge). (p : PlanePoint) → In c.hull.result p ↔ IsOn e p) c.side_at-side.ensures.edge c.hull.ensures;
    }

pub hull-requires-clause-octilinear : goal.hull-requires-clause-octilinear
hull-requires-clause-octilinear c = side_octilinear c.args.corners.now c.args.i _ c.requires.sides c.requires.within c.side_at-side.ensures.edge
