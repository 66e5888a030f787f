-- What copper is beside a task, told by the task itself.
use Rattle.std.specs.Prelude.{ℕ, List, Any}
use Rattle.plane.specs.Plane.{Bounds, AreNear}
use Rattle.hulls.specs.Cells.{around}
use Rattle.board_language.specs.Board.{Board}
use Rattle.fill_rules.specs.Tasks.{Task, settings_of, task_zone}
use Rattle.fill_rules.specs.Needs.{item_need}

-- one of the hulls is near the frame at the need
abbrev pub IsSomeNear : ℕ → Bounds → List Bounds → Type 0
IsSomeNear need frame hulls = Any (λ h. AreNear need frame h) hulls

-- one of the hulls is near, at the need of the task's zone and whatever the nets, to the frame of its outline
unfoldable pub IsBesideTask : Board → Task → List Bounds → Type 0
IsBesideTask b t hulls = IsSomeNear (item_need b (settings_of (task_zone b t)) 0) (around (task_zone b t).outline) hulls
