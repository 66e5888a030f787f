use Rattle.std.proofs.Common.{◌≡◌, subst, IfOk}
use Rattle.plane.specs.Plane.{Bounds}
use Rattle.cores.specs.Room.{spot}
use Rattle.copper_shape.proofs.Cuts.{code_piece}
use Rattle.copper_shape.proofs.pieces.piece_hull.Goals as goal

pub returns : goal.returns
returns c =
    let P : Bounds → Type 0 = λ z. IfOk c.hull.result (λ h. h ≡ z) in
    subst P (code_piece (spot c.args.from) (spot c.args.to) c.args.count c.args.radius c.args.i _ _ c.cut_at-start.ensures.value c.cut_at-finish.ensures.value) c.hull.ensures
