use Rattle.sheet_union.proofs.Found.{upright_is}
use Rattle.sheet_union.proofs.crossing.put_upright.Goals as goal

pub returns : goal.returns
returns c =
    upright_is c.args.a.now c.args.b.now c.args.x _ _ _ _ _ _ _ _ _ c.requires c.d0.ensures.oct c.d0.ensures.value c.d1.ensures.value c.s0.ensures.value c.s1.ensures.value
    c.in_ok-put_on_rising.ensures c.in_ok-put_on_rising-2.ensures c.in_ok-put_on_falling.ensures c.in_ok-put_on_falling-2.ensures
