use Rattle.std.proofs.Common.{◌∙◌}
use Rattle.sheet_trace.proofs.Outlines.{listed_next, listed_unlike, loops_found}
use Rattle.sheet_trace.proofs.drawn_loops.loops.Goals as goal

pub contours-requires-clause-next : goal.contours-requires-clause-next
contours-requires-clause-next c = rw c.deref.ensures.value (listed_next c.args.sheet.now _ c.in_ok-edges.ensures.sheet c.in_ok-edges.ensures.edges)

pub contours-requires-clause-unlike : goal.contours-requires-clause-unlike
contours-requires-clause-unlike c = rw c.deref.ensures.value (listed_unlike c.args.sheet.now _ c.in_ok-edges.ensures.sheet c.in_ok-edges.ensures.edges)

pub returns : goal.returns
returns c =
    loops_found c.args.sheet.now _ _ c.in_ok-edges.ensures.sheet c.in_ok-edges.ensures.edges
    (c.in_ok-loops.ensures ∙ (rw c.deref.ensures.value at c.in_ok-drawings.ensures))
