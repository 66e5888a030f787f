use Rattle.std.proofs.lemmas.Result.{IfOk-weaker}
use Rattle.ratsnest.specs.Ratsnest.{IsTree, IsLeastTree}
use Rattle.ratsnest.proofs.Law.{least_tree}
use Rattle.ratsnest.proofs.tree.Goals as goal

pub returns-clause-least : goal.returns-clause-least
returns-clause-least c = IfOk-weaker c.grown.result (λ pairs. IsTree c.args.anchors.now pairs.items)
    (λ pairs. IsLeastTree c.args.anchors.now pairs.items) (λ pairs h. least_tree c.args.anchors.now pairs.items h) c.grown.ensures
