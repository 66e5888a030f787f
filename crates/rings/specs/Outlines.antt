-- The outlines of octagons.
use Rattle.std.specs.Prelude.{◌≡◌, List, pos}
use Rattle.plane.specs.Plane.{Bounds}
use Rattle.strips.specs.declared.Strip.{Strip}
use Rattle.strips.specs.Strips.{AreStrips, in_nanometres}
use Rattle.strips.specs.Area.{area2_of}
use Rattle.rings.specs.Rings.{Traced}
use Rattle.rings.specs.Sheets.{AreRings}

-- the outlines of pieces, octagons of the grid: the rings of their union, cut into strips, and twice its area
pub record AreOutlines (pieces : List Bounds) (traced : Traced) : Type 0 where
  pub strips : List Strip
  pub are_strips : AreStrips (in_nanometres pieces) strips
  pub are_rings : AreRings strips traced.rings
  pub area : pos traced.area2 ≡ area2_of strips
