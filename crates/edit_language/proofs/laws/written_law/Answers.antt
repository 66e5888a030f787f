use Rattle.edit_language.proofs.Written.{written}
use Rattle.edit_language.proofs.laws.written_law.Goals as goal

pub returns : goal.returns
returns c = written
