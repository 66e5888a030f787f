use Rattle.sheet_trace.proofs.Parts.{boundary_is}
use Rattle.sheet_trace.proofs.boundary.Goals as goal

pub returns-clause-edges : goal.returns-clause-edges
returns-clause-edges c =
    boundary_is c.args.sheet.now _ _ _ c.strips-strips.ensures.sheet (rw c.strips-strips.ensures.value at c.in_ok-edges.ensures) (rw c.deref.ensures.value at c.in_ok-corners.ensures.ends)
    c.in_ok-corners.ensures.order (rw (c.strips-strips.ensures.value, c.deref-2.ensures.value) at c.in_ok-put_level_parts.ensures)
