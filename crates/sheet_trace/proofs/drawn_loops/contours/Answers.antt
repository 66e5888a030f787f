use Rattle.sheet_trace.proofs.Outlines.{ordered_loops}
use Rattle.sheet_trace.proofs.drawn_loops.contours.Goals as goal

pub returns : goal.returns
returns c = ordered_loops c.args.edges.now _ _ c.in_ok-drawn.ensures c.requires.unlike c.in_ok-sorted.ensures.loops
