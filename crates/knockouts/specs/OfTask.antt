-- What joins and holds the copper of a task.
use Rattle.std.specs.Prelude.{List}
use Rattle.plane.specs.Plane.{Bounds}
use Rattle.copper_shape.specs.Shapes.{Copper}
use Rattle.board_language.specs.Board.{Board}
use Rattle.fill_rules.specs.Tasks.{Task, settings_of, task_zone}
use Rattle.fill_rules.specs.Anchors.{anchors_of}
use Rattle.fill_rules.specs.Reliefs.{spokes_of}

-- the copper of its zone's net on its layer that anchors islands
abbrev pub task_anchors : Board → Task → List Copper
task_anchors b t = anchors_of b (settings_of (task_zone b t)) t.layer

-- the spokes of the pads that its zone joins by spokes on its layer
abbrev pub task_spokes : Board → Task → List Bounds
task_spokes b t = spokes_of b (settings_of (task_zone b t)) t.layer
