-- Which tasks may change which.
use Rattle.std.specs.Prelude.{◌≡◌, ℕ, ◌<◌, true}
use Rattle.plane.specs.Plane.{AreNear}
use Rattle.hulls.specs.Cells.{around}
use Rattle.board_language.specs.Board.{Board}
use Rattle.fill_rules.specs.Tasks.{zone_at, layer_at}
use Rattle.fill_rules.specs.Needs.{is_foreign, zone_need}

-- the task of rank j may change that of rank i: it ranks above it, on its layer, their zones are foreign, and the frames
-- of the two outlines hold points that are near at the need
pub record IsReaching (b : Board) (j i : ℕ) : Type 0 where
  pub above : j < i
  pub layer : layer_at b j ≡ layer_at b i
  pub foreign : is_foreign (zone_at b j).net (zone_at b i).net ≡ true
  pub near : AreNear (zone_need b (zone_at b j) (zone_at b i)) (around (zone_at b i).outline) (around (zone_at b j).outline)
