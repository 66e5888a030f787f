use Rattle.std.proofs.Common.{refl}
use Rattle.sheet_trace.proofs.Opens.{some_yes, some_no, some_end}
use Rattle.sheet_trace.proofs.hole.opens.Goals as goal

pub returns-then-opens_at : goal.returns-then-opens_at
returns-then-opens_at c = some_yes c.args.at c.args.walk.now c.each.goes-index _ _ _ _ c.each-test.true c.opens_at.ensures c.if-opens_at.true c.each.invariant

pub each-preserved : goal.each-preserved
each-preserved c = some_no c.args.at c.args.walk.now c.each.goes-index _ _ _ _ _ c.each-test.true c.opens_at.ensures c.if-opens_at.false refl c.each.invariant

pub returns : goal.returns
returns c = some_end c.args.at c.args.walk.now c.each.goes-index _ _ c.each-test.false c.each.invariant
