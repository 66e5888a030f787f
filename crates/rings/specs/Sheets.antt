-- The loops and the rings of a sheet, by its strips.
use Rattle.std.specs.Prelude.{List}
use Rattle.grid_num.specs.declared.Point.{Point}
use Rattle.plane.specs.Covering.{Edge}
use Rattle.strips.specs.declared.Strip.{Strip}
use Rattle.rings.specs.Boundary.{AreBoundary}
use Rattle.rings.specs.Loops.{Loop, AreLoopsOf}
use Rattle.rings.specs.Rings.{AreRingsOf}

-- the loops of the sheet: those of its boundary edges
pub record AreLoops (ss : List Strip) (loops : List Loop) : Type 0 where
  pub edges : List Edge
  pub boundary : AreBoundary ss edges
  pub are : AreLoopsOf edges loops

-- the rings of the sheet: those of its boundary edges
pub record AreRings (ss : List Strip) (rings : List (List Point)) : Type 0 where
  pub edges : List Edge
  pub boundary : AreBoundary ss edges
  pub are : AreRingsOf edges rings
