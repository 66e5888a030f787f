use Rattle.sexpr_text.proofs.FaultLaws.{bad_utf8}
use Rattle.sexpr_text.proofs.laws.bad_utf8.Goals as goal

pub returns : goal.returns
returns c = bad_utf8
