use Rattle.std.proofs.Common.{ℕ, subst, arith, below_more, get_or}
use Rattle.std.proofs.lemmas.List.{get_or_default}
use Rattle.plane.specs.Plane.{Within}
use Rattle.grid_num.specs.declared.Point.{Point}
use Rattle.octagon.proofs.Hull.{at_inside, widened_new, widened_old, widened_inside}
use Rattle.plane.proofs.Inside.{inside_in}
use Rattle.octagon.proofs.Oct.of_points.Goals as goal

pub points-init : goal.points-init
points-init c = record {
  seen = λ k d l. absurd (omega arith);
  least = λ b h. at_inside c.of_point-hull.result b _ _ c.of_point-hull.ensures.at (h 0 _ c.requires.some);
  oct = c.of_point-hull.ensures.oct;
}

pub points-preserved : goal.points-preserved
points-preserved c =
    let i = c.points.p-index in
    let r = c.widened-hull.result in
    let w = c.widened-hull.ensures.widened in
    let P : ℕ → Type 0 = λ k. (d : Point) → Within r (get_or c.args.points.now k d).x (get_or c.args.points.now k d).y in
    let Q : Point → Type 0 = λ q. Within r q.x q.y in
    let seen = below_more P i
    (λ k l d. widened_old c.points.hull r _ _ _ _ w (c.points.invariant.seen k d l))
    (λ d. subst Q (get_or_default c.args.points.now i _ d c.points-test.true) (widened_new c.points.hull r _ _ w)) in
    record {
      seen = λ k d l. seen k l d;
      least = λ b h. widened_inside c.points.hull r b _ _ w (c.points.invariant.least b h) (h i _ c.points-test.true);
      oct = c.widened-hull.ensures.oct;
    }

pub returns : goal.returns
returns c = record {
  holds = λ k d l. c.points.invariant.seen k d (omega arith);
  least = λ b p h i. inside_in c.points.hull b p (c.points.invariant.least b h) i;
  oct = c.points.invariant.oct;
}
