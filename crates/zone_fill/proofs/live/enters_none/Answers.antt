use Rattle.std.proofs.Common.{refl}
use Rattle.zone_fill.proofs.Entering.{entering, some_inside}
use Rattle.zone_fill.proofs.live.enters_none.Goals as goal

pub returns-in-Some : goal.returns-in-Some
returns-in-Some c =
    let e = entering c.args.walls.now c.args.oct.now c.in-Some.inner c.requires.wide c.in-Some.ensures.oct.tight c.in-Some.ensures.points c.requires.walls in
    (λ t. e.0 (c.is_apart.ensures.0 t), λ n. c.is_apart.ensures.1 (e.1 n))

pub returns-in-None : goal.returns-in-None
returns-in-None c = (λ t. absurd (some_inside c.args.oct.now c.requires.wide (c.in-None.ensures.none.0 refl)), λ n. refl)
