use Rattle.scan_runs.proofs.Steps.{place_good, place_first}
use Rattle.scan_runs.proofs.step.step_to.Goals as goal

pub end_step-requires-2-clause-from : goal.end_step-requires-2-clause-from
end_step-requires-2-clause-from c = place_good c.args.upper.to c.args.more c.place_at-3.result c.requires.more c.requires.upper.to c.place_at-3.ensures

pub end_step-requires-2-clause-to : goal.end_step-requires-2-clause-to
end_step-requires-2-clause-to c = place_first c.args.lower.to c.place_at-4.result c.requires.lower.to c.place_at-4.ensures
