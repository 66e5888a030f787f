use Rattle.std.proofs.Common.{◌<◌, ◌-◌, length, arith}
use Rattle.sexpr_text.proofs.Nodes.{root_node, some_nodes}
use Rattle.sexpr_text.proofs.laws.root_is_last.Goals as goal

pub returns : goal.returns
returns c bytes nodes root t = let some : 0 < length nodes = some_nodes bytes nodes root t in root_node bytes nodes (length nodes - 1) root (omega arith) t
