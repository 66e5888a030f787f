use Rattle.std.proofs.Common.{arith, refl}
use Rattle.scan_runs.proofs.Walk.{small_at}
use Rattle.scan_runs.proofs.Steps.{good_at, steps_more, steps_stop}
use Rattle.scan_runs.proofs.step.steps_to.Goals as goal

pub step_to-requires-clause-upper : goal.step_to-requires-clause-upper
step_to-requires-clause-upper c = good_at c.args.upper.now c.runs.i _ c.requires.upper (omega arith)

pub step_to-requires-clause-lower : goal.step_to-requires-clause-lower
step_to-requires-clause-lower c = small_at c.args.lower.now c.runs.i _ c.requires.lower (omega arith)

pub returns-in-None-clause-none : goal.returns-in-None-clause-none
returns-in-None-clause-none c = λ _. steps_stop c.args.more c.runs.i c.args.upper.now c.args.lower.now _ _ (omega arith) (omega arith) ((rw c.in-None.is at c.step_to.ensures.none) refl)

pub runs-preserved : goal.runs-preserved
runs-preserved c =
    rw c.in_ok-push-in-Some.ensures.items
    (steps_more c.args.more c.runs.i c.args.upper.now c.args.lower.now c.runs.steps.items _ _ c.in-Some.step (omega arith) (omega arith) c.runs.invariant (rw c.in-Some.is at c.step_to.ensures.some))
