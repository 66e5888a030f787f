use Rattle.refill_walk.proofs.Octs.{same_by}
use Rattle.refill_walk.proofs.same.is_same.Goals as goal

pub returns : goal.returns
returns c =
    same_by c.args.one.now c.args.other.now c.is_same_x.result c.is_same_y.result c.is_same_s.result c.is_same_d.result c.all.result
    c.is_same_x.ensures c.is_same_y.ensures c.is_same_s.ensures c.is_same_d.ensures c.all.ensures
