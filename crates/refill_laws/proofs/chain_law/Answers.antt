use Rattle.refill_laws.proofs.Chains.{chain_law, chain_ranks, same_law, next_flags, renamed}
use Rattle.refill_laws.proofs.chain_law.Goals as goal

pub returns-clause-untouched : goal.returns-clause-untouched
returns-clause-untouched c = chain_law

pub returns-clause-ranks : goal.returns-clause-ranks
returns-clause-ranks c = chain_ranks

pub returns-clause-same : goal.returns-clause-same
returns-clause-same c = same_law

pub returns-clause-flags : goal.returns-clause-flags
returns-clause-flags c = next_flags

pub returns-clause-renamed : goal.returns-clause-renamed
returns-clause-renamed c = renamed
