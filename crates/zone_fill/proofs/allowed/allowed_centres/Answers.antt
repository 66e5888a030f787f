use Rattle.std.proofs.Common.{map}
use Rattle.plane.specs.Plane.{Within}
use Rattle.centres.specs.Centres.{shrunk, IsBarredAt}
use Rattle.knockouts.specs.Obstacles.{need_of}
use Rattle.zone_fill.proofs.Cutting.{left_over}
use Rattle.zone_fill.proofs.allowed.allowed_centres.Goals as goal

pub returns : goal.returns
returns c =
    left_over c.in_ok-rows.rows c.in_ok-cuts.cuts.items c.minus_all.new.self (λ x y. Within (shrunk c.args.frame.now c.args.radius) x y)
    (λ x y. IsBarredAt c.args.radius c.args.walls.now (map need_of c.args.needs.now) x y) (rw c.deref.ensures.value at c.in_ok-minus_all.ensures.ok) c.in_ok-rows.ensures
    c.in_ok-cuts.ensures
