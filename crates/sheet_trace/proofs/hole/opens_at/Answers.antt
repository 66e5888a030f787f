use Rattle.std.proofs.Common.{◌∙◌, sym, true}
use Rattle.sheet_trace.proofs.Opens.{opens_by, opens_no}
use Rattle.sheet_trace.proofs.hole.opens_at.Goals as goal

pub returns-then-is_same : goal.returns-then-is_same
returns-then-is_same c = opens_by c.args.at c.args.comes.now c.args.goes.now true _ _ (sym c.if-is_same.true ∙ c.is_same.ensures) c.turn_left.ensures c.turn.ensures

pub returns-else-is_same : goal.returns-else-is_same
returns-else-is_same c = opens_no c.args.at c.args.comes.now c.args.goes.now _ c.is_same.ensures c.if-is_same.false
