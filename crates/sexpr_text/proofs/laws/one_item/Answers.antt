use Rattle.sexpr_text.proofs.Nodes.{same_item}
use Rattle.sexpr_text.proofs.laws.one_item.Goals as goal

pub returns : goal.returns
returns c = same_item
