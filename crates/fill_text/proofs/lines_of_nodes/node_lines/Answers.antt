use Rattle.std.proofs.Common.{◌<◌, ap, map, List, ℕ, arith, length}
use Rattle.std.specs.Arc.{arc_value}
use Rattle.std.proofs.lemmas.List.{get_or_read, length-map}
use Rattle.fill_rules.specs.Nodes as rules
use Rattle.fill_rules.specs.Nodes.{nodes_of}
use Rattle.fill_rules.specs.Clusters.{node_net}
use Rattle.clusters.specs.Labelling.{node_of}
use Rattle.output_rules.specs.Reported.{node_line}
use Rattle.fill_text.proofs.TasksSaid.{item_more, node_said}
use Rattle.fill_text.proofs.lines_of_nodes.node_lines.Goals as goal

pub each-preserved : goal.each-preserved
each-preserved c =
    let b = c.args.board.now.board in
    let fs = map arc_value c.args.fills.now in
    let it = c.args.labelling.now in
    let l : c.each.k < length it.nodes.items = omega (arith, c.each-test.true, c.len-k-end.ensures, it.nodes.ok) in
    let m = length-map it.nodes.items (node_of b) in
    let n = ap (λ (ns : List rules.Node). length ns) c.requires.labelling.nodes in
    let lt : c.each.k < length (nodes_of b fs) = omega (arith, l, m, n) in
    let o = length-map (nodes_of b fs) (node_net b) in
    let q = ap (λ (ns : List ℕ). length ns) c.requires.labelling.nets in
    record {
      lines = item_more (node_line b fs) (nodes_of b fs) c.each.k (node_of b c.index.result.now) _ c.each.lines.items c.push.new.self.items lt c.each.invariant.lines
          (node_said b fs (node_of b) it.nodes.items (nodes_of b fs) it.nets.items c.each.k c.index.result.now c.in_ok-copper.copper c.index-net.result.now c.requires.labelling.nodes c.requires.labelling.nets l
          c.index.ensures (get_or_read it.nets.items c.each.k c.index-net.result.now (omega (arith, lt, o, q)) c.index-net.ensures 0) c.in_ok-copper.ensures.copper) c.in_ok-push.ensures.items;
      numbered = c.in_ok-copper.ensures.kept;
    }
