use Rattle.sheet_trace.proofs.Outlines.{edges_listed}
use Rattle.sheet_trace.proofs.drawn_loops.listed.Goals as goal

pub returns-clause-edges : goal.returns-clause-edges
returns-clause-edges c = edges_listed c.args.sheet.now _ _ c.in_ok-boundary.ensures.edges c.in_ok-edges.ensures.edges
