-- The outlines of one fill.
use Rattle.std.specs.Prelude.{List}
use Rattle.std.specs.List.{All}
use Rattle.plane.specs.Plane.{Bounds}
use Rattle.rings.specs.Rings.{Traced, IsRingInRange}
use Rattle.rings.specs.Outlines.{AreOutlines}
use Rattle.outlines.specs.Drawn.{IsCovering}

-- they are the outlines of the pieces, cover exactly their points, and lie within 500 mm
pub record IsOutlined (pieces : List Bounds) (traced : Traced) : Type 0 where
  pub outlines : AreOutlines pieces traced
  pub cover : IsCovering pieces traced
  pub range : All IsRingInRange traced.rings
