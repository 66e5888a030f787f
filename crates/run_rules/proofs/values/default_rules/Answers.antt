use Rattle.std.proofs.Common.{refl}
use Rattle.board_text.specs.Numbers.{length_fault, length_of}
use Rattle.run_rules.proofs.values.default_rules.Goals as goal

pub returns : goal.returns
unfolding length_fault length_of
returns c = refl
