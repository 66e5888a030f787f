use Rattle.std.proofs.Common.{sym, ◌∙◌, subst}
use Rattle.ratsnest.specs.Ratsnest.{IsTree}
use Rattle.ratsnest.proofs.Unique.{tree_one}
use Rattle.ratsnest.proofs.check_tree.Goals as goal

pub returns-clause-exact : goal.returns-clause-exact
returns-clause-exact c = (
  λ yes. subst (IsTree c.args.anchors.now) (sym c.deref.ensures.value ∙ c.is_same.ensures.0 yes) c.in_ok-one.ensures.order,
  λ is. c.is_same.ensures.1 (c.deref.ensures.value ∙ tree_one _ _ _ c.in_ok-one.ensures.order is),
)
