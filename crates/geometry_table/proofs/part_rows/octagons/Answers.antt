use Rattle.std.proofs.lemmas.List.Elements.{All-nil, All-push}
use Rattle.octagon.specs.Room.{IsAround}
use Rattle.geometry_table.proofs.part_rows.octagons.Goals as goal
use Rattle.geometry_table.proofs.part_rows.octagons.Goals.{in-Some+in_ok-push, in_default}

pub each-init : goal.each-init
each-init c = rw c.new-octs.ensures.items (All-nil (IsAround 300000000))

pub each-preserved : goal.each-preserved
each-preserved c = elim c.match-near_octagon.branch [
  | in-Some+in_ok-push w ↦ rw (w.octs-is, w.in_ok-push.ensures.items) (All-push (IsAround 300000000) c.each.octs.items _ c.each.invariant w.in-Some.ensures)
  | in_default w ↦ rw w.octs-is c.each.invariant
]
