use Rattle.std.proofs.Common.{◌≡◌, ◌<◌, subst, sym, ◌∙◌, arith, length}
use Rattle.std.proofs.lemmas.Bool.{iff_false}
use Rattle.std.proofs.lemmas.List.{get_or_default}
use Rattle.plane.specs.Covering.{edges_of}
use Rattle.outline_slab.specs.Rules.{IsSide, no_edge}
use Rattle.outline_slab.proofs.Chain.{edges_length}
use Rattle.outline_slab.proofs.make.first_off_angle.Goals as goal

pub returns-then-not-is_right : goal.returns-then-not-is_right
returns-then-not-is_right c =
    let vs = c.args.vertices.now in
    let n : length (edges_of vs) ≡ length vs = edges_length vs in
    let l : c.each.i < length (edges_of vs) = omega arith in
    record {
      within = l;
      off = λ d h. iff_false c.is_right.ensures c.if-not-is_right.true
          (subst IsSide (get_or_default (edges_of vs) c.each.i d no_edge l ∙ sym c.side_at.ensures.edge) h);
      before = λ k d h. c.each.invariant k d h;
    }

pub returns : goal.returns
returns c = let n = edges_length c.args.vertices.now in λ k d h. c.each.invariant k d (omega arith)
