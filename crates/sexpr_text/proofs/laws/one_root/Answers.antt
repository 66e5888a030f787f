use Rattle.sexpr_text.proofs.Nodes.{same_root}
use Rattle.sexpr_text.proofs.laws.one_root.Goals as goal

pub returns : goal.returns
returns c = same_root
