use Rattle.sheet_union.proofs.Found.{falling_is}
use Rattle.sheet_union.proofs.crossing.put_on_falling.Goals as goal

pub returns : goal.returns
returns c = falling_is c.args.a.now c.args.b.now c.args.x c.args.s _ _ c.requires.x c.requires.s c.in_ok-put_met.ensures
