use Rattle.std.proofs.Common.{refl}
use Rattle.kept_copper.proofs.Decided.{if_ok, spared_at}
use Rattle.kept_copper.proofs.staying.is_spared_at.Goals as goal

pub returns : goal.returns
returns c = if_ok _ _ c.is_spared.result (λ flag h. spared_at c.args.islands c.args.pieces.now c.args.labels.now c.args.m _ flag refl c.if-label-m.false h) c.is_spared.ensures
