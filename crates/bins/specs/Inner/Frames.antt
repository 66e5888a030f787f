-- Rectangles round octagons.
use Rattle.std.specs.Prelude.{◌≤ℤ◌}
use Rattle.plane.specs.Plane.{Bounds}
use Rattle.bins.specs.declared.frame.Frame.{Frame}

-- the octagon lies in the rectangle
pub record IsInFrame (f : Frame) (o : Bounds) : Type 0 where
  pub x_low : f.x0 ≤ℤ o.x0
  pub x_high : o.x1 ≤ℤ f.x1
  pub y_low : f.y0 ≤ℤ o.y0
  pub y_high : o.y1 ≤ℤ f.y1
