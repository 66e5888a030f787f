use Rattle.std.proofs.lemmas.List.Elements.{All-nil, All-push}
use Rattle.islands.specs.Held.{IsAnchorInRoom}
use Rattle.geometry_table.proofs.part_rows.shapes.Goals as goal

pub each-init : goal.each-init
each-init c = rw c.new-shapes.ensures.items (All-nil IsAnchorInRoom)

pub each-preserved : goal.each-preserved
each-preserved c = rw c.in_ok-push.ensures.items (All-push IsAnchorInRoom c.each.shapes.items _ c.each.invariant c.shape.ensures)
