use Rattle.sheet_union.proofs.Stout.{inside_is}
use Rattle.sheet_union.proofs.has_inside.Goals as goal

pub returns : goal.returns
returns c =
    inside_is c.args.oct.now _ _ _ _ _ _ _ _ c.all.result c.x0.ensures.oct c.x0.ensures.value c.x1.ensures.value c.y0.ensures.value c.y1.ensures.value
    c.s0.ensures.value c.s1.ensures.value c.d0.ensures.value c.d1.ensures.value c.all.ensures
