use Rattle.std.proofs.Common.{◌-◌, arith}
use Rattle.sexpr_text.proofs.Nodes.{root_node}
use Rattle.sexpr_text.proofs.Stored.{stored_length}
use Rattle.sexpr_text.proofs.tree.Tree.root.Goals as goal

pub returns-clause-item : goal.returns-clause-item
returns-clause-item c bytes root t =
    root_node bytes c.args.self.now (c.len.result - 1) root
    (let e = stored_length _ _ _ c.self.view_is in omega (arith, e, c.len.ensures, c.self.inside.nodes.ok, c.self.invariant.0)) t
