-- Points as the code has them: coordinates, and a scale by which they are divided.
use Rattle.std.specs.Prelude.{◌≡◌, ℕ}
use Rattle.plane.specs.Plane.{PlanePoint}
use Rattle.grid_num.specs.declared.Point.{Point}

-- q is the place (p.x / k, p.y / k)
pub record IsPlaceAt (p : Point) (k : ℕ) (q : PlanePoint) : Type 0 where
  pub x : q.x ≡ p.x
  pub y : q.y ≡ p.y
  pub scale : q.scale ≡ k
