use Rattle.std.proofs.Common.{ap}
use Rattle.sexpr_text.proofs.Nodes.{seen_node}
use Rattle.sexpr_text.proofs.Stored.{shown_at}
use Rattle.sexpr_text.proofs.tree.Tree.span.Goals as goal

pub returns-clause-item : goal.returns-clause-item
returns-clause-item c item h =
    let e = seen_node c.args.self.now c.args.id item _ (shown_at _ _ _ _ c.index-node.result.now c.self.view_is c.requires c.index-node.ensures) h in
    (ap (λ n. n.from) e, ap (λ n. n.to) e)
