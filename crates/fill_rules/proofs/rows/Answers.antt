use Rattle.std.proofs.Common.{refl}
use Rattle.hulls.specs.Cells.{floor_of, ceil_of, points_round, points_round_all, around}
use Rattle.hulls.specs.Hulls.{hull_of, hulls_of}
use Rattle.plane.specs.Plane.{ball_of}
use Rattle.grid_num.specs.Roots.{up2_of}
use Rattle.fill_rules.specs.Tasks.{ranked, task_zone}
use Rattle.board_language.specs.Copper.{pad_hulls}
use Rattle.fill_rules.specs.Reliefs.{pad_spokes}
use Rattle.fill_rules.specs.Fill.{fill_of}
use Rattle.fill_rules.proofs.Spared.{row_stays, row_goes, row_less}
use Rattle.fill_rules.proofs.rows.Goals as goal

pub returns-clause-spokes : goal.returns-clause-spokes
unfolding pad_spokes pad_hulls hulls_of hull_of around points_round_all points_round floor_of ceil_of ball_of up2_of
returns-clause-spokes c = refl

pub returns-clause-rank : goal.returns-clause-rank
unfolding ranked task_zone
returns-clause-rank c = refl

pub returns-clause-pad : goal.returns-clause-pad
returns-clause-pad c = refl

pub returns-clause-track : goal.returns-clause-track
returns-clause-track c = refl

pub returns-clause-edge : goal.returns-clause-edge
returns-clause-edge c = refl

pub returns-clause-brush : goal.returns-clause-brush
returns-clause-brush c = refl

pub returns-clause-island : goal.returns-clause-island
returns-clause-island c = λ b i x n. (row_stays b (fill_of b) i x n, row_goes b (fill_of b) i x n)

pub returns-clause-less_island : goal.returns-clause-less_island
returns-clause-less_island c = λ b i x n. row_less b (fill_of b) i x n

pub returns-clause-modes : goal.returns-clause-modes
returns-clause-modes c = λ b i x. (tt, λ s. s)
