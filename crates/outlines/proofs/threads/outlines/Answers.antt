use Rattle.std.proofs.Common.{◌≡◌, ◌∙◌, ap, map}
use Rattle.std.specs.Prelude.{IfOk}
use Rattle.std.specs.Arc.{arc_value}
use Rattle.rayon.proofs.ToStd.{slice-AllZip}
use Rattle.output_rules.specs.Traced.{AreTracedOf}
use Rattle.outlines.specs.Drawn.{AreCovered, AreRingsInRange}
use Rattle.outlines.specs.Inner.Each.{IsOutlined}
use Rattle.outlines.proofs.InOrder.{drawable_at, together, traced, covered, in_range}
use Rattle.outlines.proofs.threads.outlines.Goals as goal

pub collect-requires-clause-ready : goal.collect-requires-clause-ready
collect-requires-clause-ready g c κs within =
    let slice : c.map.result.base.base.slice.now ≡ c.args.fills.now =
    ap (λ it. it.base.slice.now) c.map.ensures.base ∙ ap (λ it. it.slice.now) c.with_min_len.ensures.base ∙ c.par_iter.ensures in
    λ k d l x e. (drawable_at arc_value _ c.args.fills.now k d x.now slice c.requires l e, λ y p. tt)

pub returns-clause-outlines : goal.returns-clause-outlines
returns-clause-outlines g c =
    let slice = ap (λ it. it.base.slice.now) c.map.ensures.base ∙ ap (λ it. it.slice.now) c.with_min_len.ensures.base ∙ c.par_iter.ensures in
    let all = c.in_ok-collect.ensures in
    let drawn = slice-AllZip all.1.0 c.args.fills.now (all.1.1 ∙ slice) (λ x r. IfOk r (λ t. IsOutlined (arc_value x).pieces t)) all.0 all.1.2 in
    together arc_value (λ w. w.items) c.in_ok-collect.field-0 c.args.fills.now all.0 (AreTracedOf (map arc_value c.args.fills.now)) all.2 drawn (traced arc_value c.args.fills.now)

pub returns-clause-cover : goal.returns-clause-cover
returns-clause-cover g c =
    let slice = ap (λ it. it.base.slice.now) c.map.ensures.base ∙ ap (λ it. it.slice.now) c.with_min_len.ensures.base ∙ c.par_iter.ensures in
    let all = c.in_ok-collect.ensures in
    let drawn = slice-AllZip all.1.0 c.args.fills.now (all.1.1 ∙ slice) (λ x r. IfOk r (λ t. IsOutlined (arc_value x).pieces t)) all.0 all.1.2 in
    together arc_value (λ w. w.items) c.in_ok-collect.field-0 c.args.fills.now all.0 (AreCovered (map arc_value c.args.fills.now)) all.2 drawn (covered arc_value c.args.fills.now)

pub returns-clause-range : goal.returns-clause-range
returns-clause-range g c =
    let slice = ap (λ it. it.base.slice.now) c.map.ensures.base ∙ ap (λ it. it.slice.now) c.with_min_len.ensures.base ∙ c.par_iter.ensures in
    let all = c.in_ok-collect.ensures in
    let drawn = slice-AllZip all.1.0 c.args.fills.now (all.1.1 ∙ slice) (λ x r. IfOk r (λ t. IsOutlined (arc_value x).pieces t)) all.0 all.1.2 in
    together arc_value (λ w. w.items) c.in_ok-collect.field-0 c.args.fills.now all.0 AreRingsInRange all.2 drawn (in_range arc_value c.args.fills.now)
