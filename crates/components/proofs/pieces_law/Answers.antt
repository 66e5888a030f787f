use Rattle.components.proofs.Pieces.{kept_cells, counted, pieces, fill}
use Rattle.components.proofs.pieces_law.Goals as goal

pub returns-clause-centres : goal.returns-clause-centres
returns-clause-centres c = kept_cells

pub returns-clause-spokes : goal.returns-clause-spokes
returns-clause-spokes c = counted

pub returns-clause-pieces : goal.returns-clause-pieces
returns-clause-pieces c = pieces

pub returns-clause-fill : goal.returns-clause-fill
returns-clause-fill c = fill
