use Rattle.std.proofs.Common.{◌-◌, take, drop, subst, sym}
use Rattle.sexpr_text.specs.Items.{children_of}
use Rattle.sexpr_text.specs.Flat.{AreNodes}
use Rattle.sexpr_text.proofs.Nodes.{seen_children}
use Rattle.sexpr_text.proofs.Stored.{shown_at}
use Rattle.sexpr_text.proofs.tree.Tree.children.Goals as goal

pub returns-clause-item : goal.returns-clause-item
returns-clause-item c item h =
    subst (λ xs. AreNodes c.args.self.now (take (c.index-node.result.now.children_end - c.index-node.result.now.first_child) (drop c.index-node.result.now.first_child xs)) (children_of item)) (sym c.deref.ensures.value)
    (seen_children c.args.self.now c.args.id item _ (shown_at _ _ _ _ c.index-node.result.now c.self.view_is c.requires c.index-node.ensures) h)
