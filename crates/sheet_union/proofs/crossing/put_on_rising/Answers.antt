use Rattle.sheet_union.proofs.Found.{rising_is}
use Rattle.sheet_union.proofs.crossing.put_on_rising.Goals as goal

pub returns : goal.returns
returns c = rising_is c.args.a.now c.args.b.now c.args.x c.args.d _ _ c.requires.x c.requires.d c.in_ok-put_met.ensures
