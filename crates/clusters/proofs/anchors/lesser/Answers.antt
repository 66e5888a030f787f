use Rattle.std.proofs.Common.{sym, subst, refl}
use Rattle.std.specs.Prelude.{Option}
use Rattle.grid_num.specs.declared.Point.{Point}
use Rattle.clusters.specs.Inner.Corners.{IsLesserOf}
use Rattle.clusters.proofs.anchors.lesser.Goals as goal

pub returns-in-Some : goal.returns-in-Some
unfolding IsLesserOf
returns-in-Some c =
    subst (λ (o : Option Point). IsLesserOf o c.args.b c.lesser_of.result) (sym c.in-Some.is)
    (c.lesser_of.ensures.first, c.lesser_of.ensures.second, c.lesser_of.ensures.one)

pub returns-in-None : goal.returns-in-None
unfolding IsLesserOf
returns-in-None c = subst (λ (o : Option Point). IsLesserOf o c.args.b c.args.b) (sym c.in-None.is) refl
