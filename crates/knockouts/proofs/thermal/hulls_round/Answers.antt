use Rattle.std.proofs.Common.{◌+ℤ◌}
use Rattle.knockouts.proofs.Boxes.{spoke_hulls}
use Rattle.knockouts.proofs.thermal.hulls_round.Goals as goal

pub returns-clause-centre : goal.returns-clause-centre
returns-clause-centre c =
    let x = c.args.pad.now.at.x in
    let y = c.args.pad.now.at.y in
    spoke_hulls x y _ (c.in_ok-hulls.ensures.centre c.requires.pad.core (x +ℤ x) (y +ℤ y) c.requires.pad.centre) c.in_ok-hulls.ensures.reach
