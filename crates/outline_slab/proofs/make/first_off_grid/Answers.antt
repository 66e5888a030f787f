use Rattle.std.proofs.Common.{ℕ, subst, below_more, get_or}
use Rattle.std.proofs.lemmas.Bool.{iff_false}
use Rattle.std.proofs.lemmas.List.{get_or_default}
use Rattle.grid_num.specs.declared.Point.{Point}
use Rattle.outline_slab.specs.Rules.{IsOnGrid, no_corner}
use Rattle.outline_slab.proofs.make.first_off_grid.Goals as goal

pub returns-then-not-is_on_grid : goal.returns-then-not-is_on_grid
returns-then-not-is_on_grid c = record {
  within = c.each-test.true;
  off = λ d h. iff_false c.is_on_grid.ensures c.if-not-is_on_grid.true (subst IsOnGrid (get_or_default c.args.vertices.now c.each.i d no_corner c.each-test.true) h);
  before = λ k d h. c.each.invariant k d h;
}

pub each-preserved : goal.each-preserved
each-preserved c =
    let vs = c.args.vertices.now in
    let P : ℕ → Type 0 = λ k. (d : Point) → IsOnGrid (get_or vs k d) in
    let here : IsOnGrid (get_or vs c.each.i no_corner) = c.is_on_grid.ensures.0 c.if-not-is_on_grid.false in
    let all = below_more P c.each.i (λ k h d. c.each.invariant k d h) (λ d. subst IsOnGrid (get_or_default vs c.each.i no_corner d c.each-test.true) here) in
    λ k d h. all k h d
