use Rattle.fills.proofs.Worked.{pieces_row}
use Rattle.fills.proofs.rows.Goals as goal

pub returns : goal.returns
returns c = pieces_row
