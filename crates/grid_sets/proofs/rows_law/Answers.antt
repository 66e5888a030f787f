use Rattle.grid_sets.proofs.Unique.{rows_law, runs_law}
use Rattle.grid_sets.proofs.rows_law.Goals as goal

pub returns-clause-rows : goal.returns-clause-rows
returns-clause-rows c = rows_law

pub returns-clause-runs : goal.returns-clause-runs
returns-clause-runs c = runs_law
