use Rattle.sheet_union.proofs.Plain.{bound_y0, bound_y1, bound_s0, bound_s1, bound_d0, bound_d1}
use Rattle.sheet_union.proofs.Found.{on_is}
use Rattle.sheet_union.proofs.crossing.is_on.Goals as goal

pub is_between-requires-2-clause-low : goal.is_between-requires-2-clause-low
is_between-requires-2-clause-low c = bound_y0 _ _ c.y0.ensures.oct c.y0.ensures.value

pub is_between-requires-2-clause-high : goal.is_between-requires-2-clause-high
is_between-requires-2-clause-high c = bound_y1 _ _ c.y1.ensures.oct c.y1.ensures.value

pub is_between-requires-3-clause-low : goal.is_between-requires-3-clause-low
is_between-requires-3-clause-low c = bound_s0 _ _ c.s0.ensures.oct c.s0.ensures.value

pub is_between-requires-3-clause-high : goal.is_between-requires-3-clause-high
is_between-requires-3-clause-high c = bound_s1 _ _ c.s1.ensures.oct c.s1.ensures.value

pub is_between-requires-4-clause-low : goal.is_between-requires-4-clause-low
is_between-requires-4-clause-low c = bound_d0 _ _ c.d0.ensures.oct c.d0.ensures.value

pub is_between-requires-4-clause-high : goal.is_between-requires-4-clause-high
is_between-requires-4-clause-high c = bound_d1 _ _ c.d1.ensures.oct c.d1.ensures.value

pub returns : goal.returns
returns c =
    on_is c.args.oct.now c.args.x c.args.y _ _ _ _ _ _ _ _ _ _ _ _ _ c.x0.ensures.oct c.requires.x c.requires.y
    c.x0.ensures.value c.x1.ensures.value c.y0.ensures.value c.y1.ensures.value c.s0.ensures.value c.s1.ensures.value c.d0.ensures.value c.d1.ensures.value
    c.is_between.ensures c.is_between-2.ensures c.is_between-3.ensures c.is_between-4.ensures c.all.ensures
