use Rattle.board_language.proofs.OneOffence.{one_offence, no_offence}
use Rattle.board_language.proofs.laws.one_offence_law.Goals as goal

pub returns : goal.returns
returns c = record { one = one_offence; none = no_offence }
