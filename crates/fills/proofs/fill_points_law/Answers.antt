use Rattle.fills.proofs.Points.{fill_points, all_fills}
use Rattle.fills.proofs.fill_points_law.Goals as goal

pub returns-clause-points : goal.returns-clause-points
returns-clause-points c = fill_points

pub returns-clause-all : goal.returns-clause-all
returns-clause-all c = all_fills
