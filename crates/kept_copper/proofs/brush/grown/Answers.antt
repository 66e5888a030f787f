use Rattle.std.proofs.Common.{sym, subst}
use Rattle.plane.specs.Plane.{HasRoom, sum_of}
use Rattle.kept_copper.proofs.Reaches.{grown_room}
use Rattle.kept_copper.proofs.brush.grown.Goals as goal

pub sum-requires : goal.sum-requires
sum-requires c = subst (λ b. HasRoom (sum_of c.args.oct.now b)) (sym c.ball.ensures) (grown_room c.args.oct.now c.args.radius c.requires.oct c.requires.radius)
