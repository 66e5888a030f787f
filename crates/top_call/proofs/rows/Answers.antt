use Rattle.std.proofs.Common.{refl}
use Rattle.board_text.specs.Numbers.{length_fault, length_of}
use Rattle.run_rules.specs.Words.{given_by, wanted}
use Rattle.top_call.specs.Today.{asked_today}
use Rattle.top_call.proofs.rows.Goals as goal

pub returns : goal.returns
unfolding length_fault length_of given_by wanted asked_today
returns c = record {
  fill = refl;
  option = refl;
  names = refl;
  report = refl;
  same_name = refl;
  threads = refl;
  nothing = refl;
  generate = refl;
  size = refl;
  refill = refl;
}
