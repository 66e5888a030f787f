use Rattle.sheet_trace.proofs.Outlines.{slits_added}
use Rattle.sheet_trace.proofs.drawn_rings.slitted.Goals as goal

pub returns-clause-slits : goal.returns-clause-slits
returns-clause-slits c =
    slits_added c.args.edges.items _ _ _ _ (rw c.deref.ensures.value at c.in_ok-slits.ensures) (rw c.deref-2.ensures.value at c.in_ok-extend_from_slice.ensures.items) c.in_ok-sorted.ensures.edges
