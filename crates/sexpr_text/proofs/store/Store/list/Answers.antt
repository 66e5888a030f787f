use Rattle.std.proofs.Common.{drop, arith, ◌∙◌, ap}
use Rattle.std.proofs.lemmas.List.{take_rest}
use Rattle.sexpr_text.proofs.Stored.{list_nodes}
use Rattle.sexpr_text.proofs.store.Store.list.Goals as goal

pub returns-clause-nodes : goal.returns-clause-nodes
returns-clause-nodes c =
    list_nodes c.args.self.now c.self.inside.nodes.items _ c.self.inside.children.items _ c.self.inside.waiting.items _ _ _ _ _ c.args.mark
    (ap (λ b. b.nodes) c.self.view_is) (ap (λ b. b.waiting) c.self.view_is) c.self.invariant.ranges
    (take_rest c.deref.result.now c.args.mark ∙ ap (drop c.args.mark) c.deref.ensures.value) c.in_ok-extend_from_slice.ensures.items
    (omega (arith, c.in-Ok-try_from.ensures, c.len-2.ensures, c.self.inside.children.ok)) (omega (arith, c.in-Ok-try_from-2.ensures, c.len-3.ensures, c.extend_from_slice.new.self.ok))
    c.in_ok-push.ensures.items
