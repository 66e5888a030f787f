use Rattle.scan_runs.proofs.Settled.{advanced_by}
use Rattle.scan_runs.proofs.settle.advanced_run.Goals as goal

pub returns : goal.returns
returns c = advanced_by c.args.run c.place_at.result c.place_at-2.result c.requires c.place_at.ensures c.place_at-2.ensures
