use Rattle.sexpr_text.proofs.Nodes.{found}
use Rattle.sexpr_text.proofs.laws.each_node_is_an_item.Goals as goal

pub returns : goal.returns
returns c bytes nodes id t h = let f = found bytes nodes id t h in (f.item, f.is_node)
