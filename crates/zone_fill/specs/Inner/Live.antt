-- Which octagons copper of a task may fill as a whole.
use Rattle.std.specs.Prelude.{List}
use Rattle.plane.specs.Plane.{Bounds}
use Rattle.fill_rules.specs.Needs.{Need}
use Rattle.centres.specs.Walls.{EntersNone}
use Rattle.centres.specs.Needs.{KeepsAll, LiesIn}

-- the octagon lies in the frame, enters no wall and keeps all needs
abbrev pub IsFree : Bounds → List Bounds → List Need → Bounds → Type 0
IsFree frame walls bars o = LiesIn o frame × EntersNone walls o × KeepsAll bars o
