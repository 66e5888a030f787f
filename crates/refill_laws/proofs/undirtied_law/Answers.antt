use Rattle.refill_laws.proofs.Edits.{ranks_law, edit_law, zones_law}
use Rattle.refill_laws.proofs.OldRanks.{one_old_rank, found_ranks}
use Rattle.refill_laws.proofs.undirtied_law.Goals as goal

pub returns-clause-ranks : goal.returns-clause-ranks
returns-clause-ranks c = ranks_law

pub returns-clause-one : goal.returns-clause-one
returns-clause-one c = one_old_rank

pub returns-clause-untouched : goal.returns-clause-untouched
returns-clause-untouched c = edit_law

pub returns-clause-zones : goal.returns-clause-zones
returns-clause-zones c = zones_law

pub returns-clause-found : goal.returns-clause-found
returns-clause-found c = found_ranks
