use Rattle.std.proofs.Common.{map, arith, length, ◌<◌}
use Rattle.std.proofs.lemmas.List.{get_or_read}
use Rattle.std.specs.Arc.{arc_value}
use Rattle.fill_rules.specs.Made.{no_fill}
use Rattle.clusters.specs.Labelling.{node_of}
use Rattle.clusters.proofs.Listing.{fill_nodes}
use Rattle.clusters.proofs.list.add_parts.Goals as goal

pub each-preserved : goal.each-preserved
each-preserved c =
    let b = c.args.board.now.board in
    let l : c.each.k < length c.in_ok-ranks.ranks.items = omega (arith, c.each-test.true, c.len-k-end.ensures, c.in_ok-ranks.ranks.ok) in
    fill_nodes b (map arc_value c.args.fills.now) c.in_ok-ranks.ranks.items c.each.k _ c.fill_at.result.now (map (node_of b) c.each.nodes.items) (map (node_of b) c.add_fill.new.nodes.items) _
    c.in_ok-ranks.ensures l (get_or_read c.in_ok-ranks.ranks.items c.each.k _ l c.index-rank.ensures 0) (c.fill_at.ensures no_fill) c.in_ok-add_fill.ensures c.each.invariant
