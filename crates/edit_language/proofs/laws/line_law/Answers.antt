use Rattle.edit_language.proofs.Pieces.{line_end_law, line_law}
use Rattle.edit_language.proofs.laws.line_law.Goals as goal

pub returns : goal.returns
returns c = record { end = line_end_law; line = line_law }
