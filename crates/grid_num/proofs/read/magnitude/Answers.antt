use Rattle.grid_num.proofs.Meanings.{capped_size}
use Rattle.grid_num.proofs.read.magnitude.Goals as goal

pub returns : goal.returns
returns c = rw (c.follow-2.ensures.value, c.first_places.ensures, c.follow.ensures.value) (capped_size c.args.beyond c.args.whole.now c.args.fraction.now)
