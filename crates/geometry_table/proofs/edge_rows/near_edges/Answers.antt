use Rattle.std.proofs.lemmas.List.Elements.{All-nil, All-push}
use Rattle.islands.specs.Inside.{IsEdgeInRoom}
use Rattle.geometry_table.proofs.edge_rows.near_edges.Goals as goal

pub each-init : goal.each-init
each-init c = rw c.new-near.ensures.items (All-nil IsEdgeInRoom)

pub each-preserved : goal.each-preserved
each-preserved c = rw c.in_ok-push.ensures.items (All-push IsEdgeInRoom c.each.near.items _ c.each.invariant c.near_edge.ensures)
