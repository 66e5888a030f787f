-- What an outline keeps beside its corners.
use Rattle.std.specs.Prelude.{List}
use Rattle.std.specs.List.{All}
use Rattle.plane.specs.Plane.{PlanePoint, Bounds, Within, In, IsOct}
use Rattle.grid_num.specs.declared.Point.{Point}
use Rattle.outline_slab.specs.Cuts.{IsWithinHalfMetre}

-- the frame that is kept of an outline: the tight octagon of its corners
pub record IsFrameKept (cs : List Point) (o : Bounds) : Type 0 where
  pub holds : All (λ q. Within o q.x q.y) cs
  pub least : (b : Bounds) (p : PlanePoint) → All (λ q. Within b q.x q.y) cs → In o p → In b p
  pub oct : IsOct o
  pub near : IsWithinHalfMetre o
