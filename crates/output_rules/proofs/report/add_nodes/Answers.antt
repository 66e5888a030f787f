use Rattle.std.proofs.Common.{arith, ◌<◌, ◌≤◌, length}
use Rattle.output_rules.proofs.Reporting.{node_next, node_end}
use Rattle.output_rules.proofs.report.add_nodes.Goals as goal

pub nodes-preserved : goal.nodes-preserved
nodes-preserved c =
    let within : c.nodes.number < length c.args.nodes.now = omega arith in
    node_next c.args.nodes.now c.nodes.number c.index-nodes-number.result c.nodes.out.items c.add_node.new.out.items _
    within c.index-nodes-number.is c.in_ok-add_node.ensures c.nodes.invariant

pub returns : goal.returns
returns c =
    let done : length c.args.nodes.now ≤ c.nodes.number = omega arith in
    node_end c.args.nodes.now c.nodes.number c.nodes.out.items _ done c.nodes.invariant
