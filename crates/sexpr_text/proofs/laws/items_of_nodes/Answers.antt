use Rattle.sexpr_text.proofs.Nodes.{spelt_item}
use Rattle.sexpr_text.proofs.laws.items_of_nodes.Goals as goal

pub returns : goal.returns
returns c = spelt_item
