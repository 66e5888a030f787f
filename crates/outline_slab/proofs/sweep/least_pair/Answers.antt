use Rattle.std.proofs.Common.{◌≡◌, ◌∙◌, List, subst}
use Rattle.std.specs.Prelude.{MatchOption}
use Rattle.std.proofs.lemmas.Result.{IfOk-weaker}
use Rattle.grid_num.specs.declared.Point.{Point}
use Rattle.outline_slab.specs.Rules.{NoneCrossing}
use Rattle.outline_slab.specs.Faults.{IsLeastCrossing}
use Rattle.outline_slab.specs.Inner.Exchange.{all_exchanged}
use Rattle.outline_slab.proofs.Exchanged.{mirror_span, mirror_sides, found_back}
use Rattle.outline_slab.proofs.sweep.least_pair.Goals as goal

pub least_crossing-requires-clause-span : goal.least_crossing-requires-clause-span
least_crossing-requires-clause-span c = rw (c.deref.ensures.value ∙ c.in_ok-turned.ensures) (mirror_span c.args.corners.now c.requires.span)

pub least_crossing-requires-clause-sides : goal.least_crossing-requires-clause-sides
least_crossing-requires-clause-sides c = rw (c.deref.ensures.value ∙ c.in_ok-turned.ensures) (mirror_sides c.args.corners.now c.requires.sides)

pub returns-then-is_tall : goal.returns-then-is_tall
returns-then-is_tall c =
    let cs = c.args.corners.now in
    let e : c.deref.result.now ≡ all_exchanged cs = c.deref.ensures.value ∙ c.in_ok-turned.ensures in
    IfOk-weaker c.least_crossing.result (λ found. MatchOption found (NoneCrossing c.deref.result.now) (λ pair. IsLeastCrossing c.deref.result.now pair.0 pair.1))
    (λ found. MatchOption found (NoneCrossing cs) (λ pair. IsLeastCrossing cs pair.0 pair.1))
    (λ found h. found_back cs found (subst (λ (q : List Point). MatchOption found (NoneCrossing q) (λ pair. IsLeastCrossing q pair.0 pair.1)) e h))
    c.least_crossing.ensures
