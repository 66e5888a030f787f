use Rattle.scan_runs.proofs.Walk.{IsWalking}
use Rattle.scan_runs.proofs.merge.walked.Given as goal

abbrev pub invariant-parts : goal.invariant-parts
invariant-parts l = IsWalking l.fn.more l.parts l.runs.items l.held l.i
