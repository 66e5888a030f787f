use Rattle.std.proofs.Common.{◌≡◌, ◌++◌, drop}
use Rattle.output_rules.specs.Report.{nodes_text}
use Rattle.output_rules.proofs.report.add_nodes.Given as goal

-- what was added, and what the nodes that are left add, is all
abbrev pub invariant-nodes : goal.invariant-nodes
invariant-nodes l = l.out.items ++ nodes_text l.number (drop l.number l.nodes) ≡ l.fn.out.items ++ nodes_text 0 l.nodes
