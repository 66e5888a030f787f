use Rattle.std.proofs.Common.{rules, arith}
use Rattle.sheet_trace.proofs.Outlines.{no_corner, one_slit}
use Rattle.sheet_trace.proofs.drawn_rings.put_slit.Goals as goal

pub returns-then-is_empty : goal.returns-then-is_empty
returns-then-is_empty c = no_corner _ _ _ (search (rules, arith))

pub returns : goal.returns
returns c = one_slit _ _ _ _ c.args.corners.now _ c.slit-there.result (search (rules, arith)) c.slit-there.ensures c.in_ok-push.ensures.items c.in_ok-push-2.ensures.items
