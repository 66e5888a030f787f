-- A rectangle with all corners of a chain inside has the frame of the chain.
use Rattle.std.proofs.Common.{arith}
use Rattle.std.specs.Prelude.{ℤ}
use Rattle.std.proofs.lemmas.Int.{ints}
use Rattle.plane.specs.Plane.{Bounds, Within, StrictlyWithin}
use Rattle.plane.proofs.Inside.{inside_in}
use Rattle.hulls.specs.Cells.{around}
use Rattle.hulls.proofs.Around.{around_inside}
use Rattle.centres.specs.Laws.{FrameHeldLaw}

closed : (b : Bounds) (x y : ℤ) → StrictlyWithin b x y → Within b x y
closed b x y w = record {
  x_low = omega (arith, ints);
  x_high = omega (arith, ints);
  y_low = omega (arith, ints);
  y_high = omega (arith, ints);
  s_low = omega (arith, ints);
  s_high = omega (arith, ints);
  d_low = omega (arith, ints);
  d_high = omega (arith, ints);
}

pub frame_held : FrameHeldLaw
frame_held cs frame l f p i = inside_in (around cs) frame p (around_inside cs frame l (λ k d m. closed frame _ _ (f.around k d m))) i
