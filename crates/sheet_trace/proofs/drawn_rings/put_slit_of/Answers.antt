use Rattle.sheet_trace.proofs.Outlines.{no_slit, slit_if_hole}
use Rattle.sheet_trace.proofs.drawn_rings.put_slit_of.Goals as goal

pub returns-then-drawn : goal.returns-then-drawn
returns-then-drawn c = slit_if_hole _ _ _ _ _ c.if-drawn.true (rw c.deref.ensures.value at c.in_ok-put_slit.ensures)

pub returns : goal.returns
returns c = no_slit _ _ _ _ c.if-drawn.false
