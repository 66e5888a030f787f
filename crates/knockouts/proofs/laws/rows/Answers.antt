use Rattle.std.proofs.Common.{refl}
use Rattle.plane.specs.Plane.{ball_of}
use Rattle.grid_num.specs.Roots.{up2_of}
use Rattle.hulls.specs.Cells.{floor_of, ceil_of, points_round, points_round_all, around}
use Rattle.hulls.specs.Hulls.{hull_of, hulls_of}
use Rattle.board_language.specs.Copper.{pad_hulls}
use Rattle.fill_rules.specs.Tasks.{task_zone}
use Rattle.fill_rules.specs.Needs.{item_needs}
use Rattle.fill_rules.specs.Reliefs.{thermal_needs}
use Rattle.knockouts.specs.Obstacles.{bars_of, needs_of}
use Rattle.knockouts.proofs.laws.rows.Goals as goal

pub returns : goal.returns
unfolding needs_of bars_of task_zone item_needs thermal_needs pad_hulls hulls_of hull_of around points_round_all points_round floor_of ceil_of ball_of up2_of
returns c = refl
