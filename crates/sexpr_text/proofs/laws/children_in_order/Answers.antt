use Rattle.sexpr_text.proofs.Nodes.{children_order}
use Rattle.sexpr_text.proofs.laws.children_in_order.Goals as goal

pub returns : goal.returns
returns c = children_order
