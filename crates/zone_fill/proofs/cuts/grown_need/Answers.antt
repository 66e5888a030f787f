use Rattle.std.proofs.Common.{sym, subst}
use Rattle.plane.specs.Plane.{HasRoom, sum_of}
use Rattle.zone_fill.proofs.Reaching.{grown_room, twice_grown_room}
use Rattle.zone_fill.proofs.cuts.grown_need.Goals as goal

pub sum-requires : goal.sum-requires
sum-requires c = subst (λ b. HasRoom (sum_of c.args.need.now.oct b)) (sym c.ball.ensures) (grown_room c.args.need.now.oct c.args.need.now.need c.requires.need.room c.requires.need.most)

pub sum-requires-2 : goal.sum-requires-2
sum-requires-2 c =
    rw (c.sum.ensures.value, c.ball.ensures, c.ball-2.ensures)
    (twice_grown_room c.args.need.now.oct c.args.need.now.need c.args.radius c.requires.need.room c.requires.need.most c.requires.radius)
