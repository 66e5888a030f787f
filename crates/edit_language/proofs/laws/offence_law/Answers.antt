use Rattle.edit_language.proofs.OneRoot.{one_root}
use Rattle.board_language.proofs.OneOffence.{one_offence, no_offence}
use Rattle.edit_language.proofs.laws.offence_law.Goals as goal

pub returns : goal.returns
returns c = record { root = one_root; one = one_offence; none = no_offence }
