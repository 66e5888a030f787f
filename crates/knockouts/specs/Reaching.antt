-- Which tasks may change which, told by the tasks themselves.
use Rattle.std.specs.Prelude.{◌≡◌, ◌↔◌, ℕ, ◌<◌, true, length}
use Rattle.plane.specs.Plane.{AreNear}
use Rattle.hulls.specs.Cells.{around}
use Rattle.board_language.specs.Board.{Board}
use Rattle.fill_rules.specs.Tasks.{Task, settings_of, task_zone, ranked, task_at}
use Rattle.fill_rules.specs.Ranking.{Outranks}
use Rattle.fill_rules.specs.Needs.{is_foreign, zone_need}
use Rattle.fill_rules.specs.Reach.{IsReaching}

-- s may change t: it ranks above it, on its layer, their zones are foreign, and the frames of the two outlines hold points
-- that are near at the need
pub record ReachesTask (b : Board) (s t : Task) : Type 0 where
  pub above : Outranks b s t
  pub layer : s.layer ≡ t.layer
  pub foreign : is_foreign (task_zone b s).net (task_zone b t).net ≡ true
  pub near : AreNear (zone_need b (settings_of (task_zone b s)) (settings_of (task_zone b t))) (around (task_zone b t).outline) (around (task_zone b s).outline)

-- by their ranks it is the same
abbrev pub ReachByRankLaw : Type 0
ReachByRankLaw = (b : Board) (j i : ℕ) → j < length (ranked b) → i < length (ranked b) → IsReaching b j i ↔ ReachesTask b (task_at b j) (task_at b i)
