use Rattle.std.proofs.Common.{◌≡◌, subst, IfOk}
use Rattle.board_zones.proofs.Corners.{corners_through}
use Rattle.board_zones.proofs.outline.corners_of.Goals as goal

pub returns-clause-value : goal.returns-clause-value
returns-clause-value c =
    subst (λ x. IfOk c.points_of.result (λ v. v.items ≡ x)) (corners_through c.args.zone.now.bytes c.args.zone.now.item c.deref.result.now c.in_ok-lists.lists.items c.deref.ensures.value c.in_ok-lists.ensures)
    c.points_of.ensures.value
