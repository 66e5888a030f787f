use Rattle.slabs.proofs.Closed.{chain_law, together_law, rows_law}
use Rattle.slabs.proofs.closed_law.Goals as goal

pub returns-clause-chain : goal.returns-clause-chain
returns-clause-chain c = chain_law

pub returns-clause-together : goal.returns-clause-together
returns-clause-together c = together_law

pub returns-clause-rows : goal.returns-clause-rows
returns-clause-rows c = rows_law
