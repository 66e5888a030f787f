use Rattle.std.proofs.Common.{◌≡◌, subst, IfOk}
use Rattle.board_zones.proofs.Corners.{fault_through}
use Rattle.board_zones.proofs.outline.corners_fault.Goals as goal

pub returns : goal.returns
returns c =
    subst (λ x. IfOk c.points_fault.result (λ f. f ≡ x)) (fault_through c.args.zone.now.bytes c.args.zone.now.item c.deref.result.now c.in_ok-lists.lists.items c.deref.ensures.value c.in_ok-lists.ensures)
    c.points_fault.ensures
