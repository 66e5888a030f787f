use Rattle.dirtied.proofs.Flags.{ok_so}
use Rattle.dirtied.proofs.Arms.{told}
use Rattle.dirtied.proofs.edit.dirtied.Goals as goal

pub returns : goal.returns
returns c = ok_so c.by_stamp.result _ _ (λ v f. told c.args.old.now c.args.new.now c.args.edit.now v.items f) c.by_stamp.ensures
