use Rattle.sheet_trace.proofs.Opens.{empty_told, some_told, no_hole, hole_by}
use Rattle.sheet_trace.proofs.hole.is_hole.Goals as goal

pub returns-then-is_empty : goal.returns-then-is_empty
returns-then-is_empty c = no_hole c.args.walk.now (empty_told _ _ c.is_empty.ensures c.if-is_empty.true)

pub returns : goal.returns
returns c = hole_by c.args.walk.now _ _ _ _ (some_told _ _ c.is_empty.ensures c.if-is_empty.false) c.least_corner-at.ensures c.opens.ensures
