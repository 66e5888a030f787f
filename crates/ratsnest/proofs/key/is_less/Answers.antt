use Rattle.ratsnest.proofs.Wide.{key_less}
use Rattle.ratsnest.proofs.key.is_less.Goals as goal

pub returns : goal.returns
returns c = λ xs p q. key_less xs c.args.e c.args.f _ _ c.is_less_key.result p q c.is_less_key.ensures
