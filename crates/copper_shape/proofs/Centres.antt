-- The cores of pads, and their centres.
use Rattle.std.proofs.Common.{◌≡◌, refl, ◌⊎◌, arith, lit≤}
use Rattle.std.specs.Prelude.{ℤ, pos, ◌+ℤ◌, ◌*ℤ◌, ◌≤ℤ◌}
use Rattle.std.proofs.lemmas.Int.{ints}
use Rattle.plane.specs.Plane.{In, box_of, grid_point}
use Rattle.touching.specs.Core.{Core, Spot, area, line, OnLine, InCore}
use Rattle.hulls.specs.Laws.{IsPad}

pub box_pad : (x0 x1 y0 y1 : ℤ) (c : Core) → c ≡ area (box_of x0 x1 y0 y1) → x0 ≤ℤ x1 → y0 ≤ℤ y1 → IsPad c
unfolding IsPad
box_pad x0 x1 y0 y1 c e l m = rw e (refl, l, m)

pub box_holds : (x0 x1 y0 y1 x y : ℤ) (c : Core) → c ≡ area (box_of x0 x1 y0 y1) → x0 ≤ℤ x → x ≤ℤ x1 → y0 ≤ℤ y → y ≤ℤ y1 → InCore c (grid_point x y)
unfolding InCore
box_holds x0 x1 y0 y1 x y c e a b d f = rw e (within x0 x1 y0 y1 x y a b d f)
  where
    within : (x0 x1 y0 y1 x y : ℤ) → x0 ≤ℤ x → x ≤ℤ x1 → y0 ≤ℤ y → y ≤ℤ y1 → In (box_of x0 x1 y0 y1) (grid_point x y)
    within x0 x1 y0 y1 x y a b d f = record {
      x_low = omega (arith, ints, a);
      x_high = omega (arith, ints, b);
      y_low = omega (arith, ints, d);
      y_high = omega (arith, ints, f);
      s_low = omega (arith, ints, a, d);
      s_high = omega (arith, ints, b, f);
      d_low = omega (arith, ints, a, f);
      d_high = omega (arith, ints, b, d);
    }

pub line_pad : (s t : Spot) (c : Core) → c ≡ line s t → (s.x ≡ t.x) ⊎ (s.y ≡ t.y) → IsPad c
unfolding IsPad
line_pad s t c e h = rw e h

pub line_middle : (s t : Spot) (x y : ℤ) (c : Core) → c ≡ line s t → x +ℤ x ≡ s.x +ℤ t.x → y +ℤ y ≡ s.y +ℤ t.y → InCore c (grid_point x y)
unfolding InCore
line_middle s t x y c e h g = rw e (middle s t x y h g)
  where
    middle : (s t : Spot) (x y : ℤ) → x +ℤ x ≡ s.x +ℤ t.x → y +ℤ y ≡ s.y +ℤ t.y → OnLine s t (grid_point x y)
    middle s t x y h g = record { i = 1; j = 1; some = lit≤ tt; x = omega (arith, ints, h); y = omega (arith, ints, g) }
