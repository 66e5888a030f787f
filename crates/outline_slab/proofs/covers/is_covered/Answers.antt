use Rattle.std.proofs.Common.{◌≡◌, refl, sym, ◌∙◌, ap, subst, ℕ, ◌<◌, arith, below_more, get_or, length}
use Rattle.std.proofs.lemmas.Bool.{iff_false}
use Rattle.std.proofs.lemmas.List.{get_or_default}
use Rattle.plane.specs.Covering.{Edge, IsOn, crossing, edges_of}
use Rattle.outline_slab.specs.Rules.{edge, no_edge}
use Rattle.outline_slab.proofs.Chain.{edges_length}
use Rattle.outline_slab.proofs.Scaled.{parity_step, covered_is, passed_is}
use Rattle.outline_slab.proofs.covers.is_covered.Goals as goal

pub returns-then-passes : goal.returns-then-passes
returns-then-passes c = λ q w. (
  λ t. passed_is c.args.corners.now q c.each.i c.each-test.true (subst (λ (e : Edge). IsOn e q) c.side_at-side.ensures.edge ((c.passes.ensures q w).0 c.if-passes.true)),
  λ h. refl,
)

pub each-preserved : goal.each-preserved
each-preserved c =
    let es = edges_of c.args.corners.now in
    let i = c.each.i in
    let n : length es ≡ length c.args.corners.now = edges_length c.args.corners.now in
    let l : i < length es = omega arith in
    record {
      parity = λ q w.
          parity_step es q i no_edge _ _ l (ap (crossing q) (sym c.side_at-side.ensures.edge) ∙ c.crosses_row.ensures q w) (c.flipped-inside.ensures _ (c.each.invariant.parity q w));
      off = λ q w.
          let P : ℕ → Type 0 = λ k. (d : Edge) → IsOn (get_or es k d) q → ⊥ in
          let here : IsOn (edge c.args.corners.now i) q → ⊥ = λ o. iff_false (c.passes.ensures q w) c.if-passes.false (subst (λ (e : Edge). IsOn e q) (sym c.side_at-side.ensures.edge) o) in
          let all = below_more P i (λ k h d. c.each.invariant.off q w k d h) (λ d o. here (subst (λ (e : Edge). IsOn e q) (get_or_default es i d no_edge l) o)) in
          λ k d h. all k h d;
    }

pub returns : goal.returns
returns c = λ q w.
    let n = edges_length c.args.corners.now in
    covered_is (edges_of c.args.corners.now) q c.each.i c.each.inside (omega arith) (c.each.invariant.parity q w) (c.each.invariant.off q w)
