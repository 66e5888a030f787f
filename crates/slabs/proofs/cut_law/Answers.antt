use Rattle.slabs.proofs.Cutting.{begin_law, step_law, end_law, turned_cuts_law}
use Rattle.slabs.proofs.cut_law.Goals as goal

pub returns-clause-begin : goal.returns-clause-begin
returns-clause-begin c = begin_law

pub returns-clause-step : goal.returns-clause-step
returns-clause-step c = step_law

pub returns-clause-end : goal.returns-clause-end
returns-clause-end c = end_law

pub returns-clause-turned : goal.returns-clause-turned
returns-clause-turned c = turned_cuts_law
