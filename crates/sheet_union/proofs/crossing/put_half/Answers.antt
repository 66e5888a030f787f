use Rattle.sheet_union.proofs.Found.{half_is}
use Rattle.sheet_union.proofs.crossing.put_half.Goals as goal

pub returns : goal.returns
returns c =
    half_is c.args.a.now c.args.b.now _ _ _ _ _ _ _ _ _ c.x0.ensures.oct c.x0.ensures.value c.x1.ensures.value c.d0.ensures.value c.d1.ensures.value
    c.in_ok-put_upright.ensures c.in_ok-put_upright-2.ensures c.in_ok-put_rising.ensures c.in_ok-put_rising-2.ensures
