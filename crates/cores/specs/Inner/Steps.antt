-- The steps between two areas, as the code keeps them.
use Rattle.plane.specs.Plane.{Bounds}
use Rattle.plane.specs.Narrow.{IsNearZero}
use Rattle.cores.specs.declared.steps.StepBounds.{StepBounds}

abbrev pub step_bounds : StepBounds → Bounds
step_bounds g = record { x0 = g.x0; x1 = g.x1; y0 = g.y0; y1 = g.y1; s0 = g.s0; s1 = g.s1; d0 = g.d0; d1 = g.d1 }

-- no step is longer than the corners of two areas can be apart
pub record AreSmallSteps (g : StepBounds) : Type 0 where
  pub x0 : IsNearZero 4800000000 g.x0
  pub x1 : IsNearZero 4800000000 g.x1
  pub y0 : IsNearZero 4800000000 g.y0
  pub y1 : IsNearZero 4800000000 g.y1
  pub s0 : IsNearZero 4800000000 g.s0
  pub s1 : IsNearZero 4800000000 g.s1
  pub d0 : IsNearZero 4800000000 g.d0
  pub d1 : IsNearZero 4800000000 g.d1
