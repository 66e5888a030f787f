use Rattle.sheet_trace.proofs.Outlines.{listed_next, listed_unlike, slitted_next, slitted_unlike, rings_found}
use Rattle.sheet_trace.proofs.drawn_rings.polygons.Goals as goal

pub contours-requires-clause-next : goal.contours-requires-clause-next
contours-requires-clause-next c = rw c.deref.ensures.value (listed_next c.args.sheet.now _ c.in_ok-edges.ensures.sheet c.in_ok-edges.ensures.edges)

pub contours-requires-clause-unlike : goal.contours-requires-clause-unlike
contours-requires-clause-unlike c = rw c.deref.ensures.value (listed_unlike c.args.sheet.now _ c.in_ok-edges.ensures.sheet c.in_ok-edges.ensures.edges)

pub contours-requires-2-clause-next : goal.contours-requires-2-clause-next
contours-requires-2-clause-next c =
    rw c.deref-3.ensures.value (slitted_next c.args.sheet.now _ _ _ c.in_ok-edges.ensures.sheet c.in_ok-edges.ensures.edges
    (rw c.deref.ensures.value at c.in_ok-loops.ensures) (rw c.deref-2.ensures.value at c.in_ok-all.ensures.slits))

pub contours-requires-2-clause-unlike : goal.contours-requires-2-clause-unlike
contours-requires-2-clause-unlike c =
    rw c.deref-3.ensures.value (slitted_unlike c.args.sheet.now _ _ _ c.in_ok-edges.ensures.sheet c.in_ok-edges.ensures.edges
    (rw c.deref.ensures.value at c.in_ok-loops.ensures) (rw c.deref-2.ensures.value at c.in_ok-all.ensures.slits))

pub returns : goal.returns
returns c =
    rings_found c.args.sheet.now _ _ _ _ _ c.in_ok-edges.ensures.sheet c.in_ok-edges.ensures.edges
    (rw c.deref.ensures.value at c.in_ok-loops.ensures) (rw c.deref-2.ensures.value at c.in_ok-all.ensures.slits)
    (rw c.deref-3.ensures.value at c.in_ok-drawings.ensures) c.in_ok-rings.ensures
