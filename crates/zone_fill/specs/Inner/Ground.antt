-- What a fill is made of, before islands go.
use Rattle.std.specs.Prelude.{◌≡◌, ℕ, ◌<◌, List, length}
use Rattle.std.specs.List.{All}
use Rattle.plane.specs.Plane.{Bounds}
use Rattle.octagon.specs.Room.{IsAround}
use Rattle.board_language.specs.Board.{Board}
use Rattle.fill_rules.specs.Tasks.{Task, ranked, task_at, zone_at, layer_at}
use Rattle.fill_rules.specs.Reliefs.{brush_radius, spokes_of}
use Rattle.fill_rules.specs.Fill.{IsLive, fill_of}
use Rattle.fills.specs.Fills.{AreThose}
use Rattle.components.specs.Cells.{AreCells, IsAllowedAt, pieces_of}

-- the brush of the task reaches so far; the cells are those of its allowed centres, within half a metre; the blots are what the
-- brush covers there; and the spokes are those that are live, in their order
pub record IsGround (b : Board) (t : Task) (radius : ℕ) (cells blots live : List Bounds) : Type 0 where
  pub rank : ℕ
  pub within : rank < length (ranked b)
  pub task : task_at b rank ≡ t
  pub brush : radius ≡ brush_radius (zone_at b rank)
  pub are_cells : AreCells (IsAllowedAt b rank) cells
  pub near : All (IsAround 250000000) cells
  pub are_blots : blots ≡ pieces_of b rank cells
  pub are_live : AreThose (IsLive b (fill_of b) rank) (spokes_of b (zone_at b rank) (layer_at b rank)) live
