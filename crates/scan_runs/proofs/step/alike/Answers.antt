use Rattle.std.proofs.Common.{arith}
use Rattle.scan_runs.proofs.Steps.{moves_more, moves_stop, moves_uneven}
use Rattle.scan_runs.proofs.step.alike.Goals as goal

pub returns-then-runs-others-clause-no : goal.returns-then-runs-others-clause-no
returns-then-runs-others-clause-no c = λ _. moves_uneven c.args.runs.now c.args.others.now (λ e. omega (arith, c.if-runs-others.true))

pub returns-then-not-moves_alike-clause-no : goal.returns-then-not-moves_alike-clause-no
returns-then-not-moves_alike-clause-no c = λ _. moves_stop c.runs.i c.args.runs.now c.args.others.now _ _ (omega arith) (omega arith) (c.moves_alike.ensures.no c.if-not-moves_alike.true)

pub runs-preserved : goal.runs-preserved
runs-preserved c = moves_more c.runs.i c.args.runs.now c.args.others.now _ _ (omega arith) (omega arith) c.runs.invariant (c.moves_alike.ensures.yes c.if-not-moves_alike.false)
