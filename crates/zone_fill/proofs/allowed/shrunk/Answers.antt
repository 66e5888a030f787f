use Rattle.std.proofs.Common.{refl}
use Rattle.octagon.specs.Bounded.{bounds_of}
use Rattle.centres.specs.Centres.{shrunk}
use Rattle.zone_fill.proofs.Seen.{made_of, none_of}
use Rattle.zone_fill.proofs.allowed.shrunk.Goals as goal

pub returns-in_ok-rows-in-Some : goal.returns-in_ok-rows-in-Some
returns-in_ok-rows-in-Some c =
    made_of c.in_ok-rows-in-Some.rows c.in-Some.rest (bounds_of c.shrunk_bounds.result) (shrunk c.args.frame.now c.args.radius) c.shrunk_bounds.ensures.value c.in_ok-rows-in-Some.ensures
    c.in-Some.ensures.points

pub returns-in-None : goal.returns-in-None
returns-in-None c =
    none_of c.empty.result (bounds_of c.shrunk_bounds.result) (shrunk c.args.frame.now c.args.radius) c.shrunk_bounds.ensures.value c.empty.ensures
    (c.in-None.ensures.none.0 refl)
