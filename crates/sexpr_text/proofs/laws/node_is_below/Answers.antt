use Rattle.sexpr_text.proofs.Nodes.{node_below}
use Rattle.sexpr_text.proofs.laws.node_is_below.Goals as goal

pub returns : goal.returns
returns c = node_below
