use Rattle.hulls.specs.Hulls.{is_slanted}
use Rattle.copper_shape.proofs.pieces.is_slanted.Goals as goal

pub returns : goal.returns
unfolding is_slanted
returns c = c.all.ensures
