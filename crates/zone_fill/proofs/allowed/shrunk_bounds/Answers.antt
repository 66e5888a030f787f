use Rattle.octagon.proofs.Plain.{IsOct-IsSmall}
use Rattle.zone_fill.proofs.Seen.{fits_add, fits_sub, shrunk_is, shrunk_range}
use Rattle.zone_fill.proofs.allowed.shrunk_bounds.Goals as goal

pub overflow_add-result : goal.overflow_add-result
overflow_add-result c =
    rw (c.x0.ensures.value, c.x1-straight.ensures.value)
    (fits_add c.args.frame.now.x0 c.ball-brush.result.x1 (IsOct-IsSmall c.args.frame.now c.x0.ensures.oct).x0 (IsOct-IsSmall c.ball-brush.result c.x1-straight.ensures.oct).x1)

pub overflow_sub-result : goal.overflow_sub-result
overflow_sub-result c =
    rw (c.x1.ensures.value, c.x1-straight.ensures.value)
    (fits_sub c.args.frame.now.x1 c.ball-brush.result.x1 (IsOct-IsSmall c.args.frame.now c.x0.ensures.oct).x1 (IsOct-IsSmall c.ball-brush.result c.x1-straight.ensures.oct).x1)

pub overflow_add-result-2 : goal.overflow_add-result-2
overflow_add-result-2 c =
    rw (c.y0.ensures.value, c.x1-straight.ensures.value)
    (fits_add c.args.frame.now.y0 c.ball-brush.result.x1 (IsOct-IsSmall c.args.frame.now c.x0.ensures.oct).y0 (IsOct-IsSmall c.ball-brush.result c.x1-straight.ensures.oct).x1)

pub overflow_sub-result-2 : goal.overflow_sub-result-2
overflow_sub-result-2 c =
    rw (c.y1.ensures.value, c.x1-straight.ensures.value)
    (fits_sub c.args.frame.now.y1 c.ball-brush.result.x1 (IsOct-IsSmall c.args.frame.now c.x0.ensures.oct).y1 (IsOct-IsSmall c.ball-brush.result c.x1-straight.ensures.oct).x1)

pub overflow_add-result-3 : goal.overflow_add-result-3
overflow_add-result-3 c =
    rw (c.s0.ensures.value, c.s1-slanted.ensures.value)
    (fits_add c.args.frame.now.s0 c.ball-brush.result.s1 (IsOct-IsSmall c.args.frame.now c.x0.ensures.oct).s0 (IsOct-IsSmall c.ball-brush.result c.x1-straight.ensures.oct).s1)

pub overflow_sub-result-3 : goal.overflow_sub-result-3
overflow_sub-result-3 c =
    rw (c.s1.ensures.value, c.s1-slanted.ensures.value)
    (fits_sub c.args.frame.now.s1 c.ball-brush.result.s1 (IsOct-IsSmall c.args.frame.now c.x0.ensures.oct).s1 (IsOct-IsSmall c.ball-brush.result c.x1-straight.ensures.oct).s1)

pub overflow_add-result-4 : goal.overflow_add-result-4
overflow_add-result-4 c =
    rw (c.d0.ensures.value, c.s1-slanted.ensures.value)
    (fits_add c.args.frame.now.d0 c.ball-brush.result.s1 (IsOct-IsSmall c.args.frame.now c.x0.ensures.oct).d0 (IsOct-IsSmall c.ball-brush.result c.x1-straight.ensures.oct).s1)

pub overflow_sub-result-4 : goal.overflow_sub-result-4
overflow_sub-result-4 c =
    rw (c.d1.ensures.value, c.s1-slanted.ensures.value)
    (fits_sub c.args.frame.now.d1 c.ball-brush.result.s1 (IsOct-IsSmall c.args.frame.now c.x0.ensures.oct).d1 (IsOct-IsSmall c.ball-brush.result c.x1-straight.ensures.oct).s1)

pub returns-clause-value : goal.returns-clause-value
returns-clause-value c =
    rw (c.x0.ensures.value, c.x1.ensures.value, c.y0.ensures.value, c.y1.ensures.value, c.s0.ensures.value, c.s1.ensures.value, c.d0.ensures.value, c.d1.ensures.value, c.x1-straight.ensures.value, c.s1-slanted.ensures.value, c.ball-brush.ensures)
    (shrunk_is c.args.frame.now c.args.radius c.x0.ensures.oct (rw c.ball-brush.ensures at c.x1-straight.ensures.oct))

pub returns-clause-range : goal.returns-clause-range
returns-clause-range c =
    rw (
      c.x0.ensures.value,
      c.x1.ensures.value,
      c.y0.ensures.value,
      c.y1.ensures.value,
      c.s0.ensures.value,
      c.s1.ensures.value,
      c.d0.ensures.value,
      c.d1.ensures.value,
      c.x1-straight.ensures.value,
      c.s1-slanted.ensures.value,
      c.ball-brush.ensures,
      shrunk_is c.args.frame.now c.args.radius c.x0.ensures.oct (rw c.ball-brush.ensures at c.x1-straight.ensures.oct),
    )
    (shrunk_range c.args.frame.now c.args.radius c.x0.ensures.oct c.requires.frame c.requires.radius)
