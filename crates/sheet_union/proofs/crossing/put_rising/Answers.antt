use Rattle.sheet_union.proofs.Found.{rising_all}
use Rattle.sheet_union.proofs.crossing.put_rising.Goals as goal

pub returns : goal.returns
returns c =
    rising_all c.args.a.now c.args.b.now c.args.d _ _ _ _ _ c.requires c.s0.ensures.oct c.s0.ensures.value c.s1.ensures.value
    c.in_ok-put_on_slants.ensures c.in_ok-put_on_slants-2.ensures
