use Rattle.std.proofs.Common.{arith}
use Rattle.std.proofs.lemmas.Int.{ints}
use Rattle.plane.proofs.Points.{IsMeeting-overlap}
use Rattle.bins.proofs.frame.misses.Goals as goal

pub returns-then-across : goal.returns-then-across
returns-then-across c t o h m =
    let w = IsMeeting-overlap o c.args.oct.now m in
    let s = c.are_apart-across.ensures.0 t in
    omega (arith, ints, s, h.x_low, h.x_high, w.x_low, w.x_high, c.x0.ensures.value, c.x1.ensures.value)

pub returns-else-across : goal.returns-else-across
returns-else-across c t o h m =
    let w = IsMeeting-overlap o c.args.oct.now m in
    let s = c.are_apart-down.ensures.0 t in
    omega (arith, ints, s, h.y_low, h.y_high, w.y_low, w.y_high, c.y0.ensures.value, c.y1.ensures.value)
