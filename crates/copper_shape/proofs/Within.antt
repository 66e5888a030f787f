-- How far the cores of the makers reach.
use Rattle.std.proofs.Common.{◌≡◌, ℕ, ◌≤◌, arith}
use Rattle.std.specs.Prelude.{ℤ, pos, neg_ℤ, ◌≤ℤ◌}
use Rattle.std.proofs.lemmas.Int.{ints}
use Rattle.grid_num.specs.declared.Point.{Point}
use Rattle.plane.specs.Plane.{Bounds, box_of, times}
use Rattle.octagon.specs.Room.{IsAround}
use Rattle.touching.specs.Core.{Core, area, line, IsWhole}
use Rattle.cores.specs.Room.{IsInRoom, IsCoreInRoom, spot}
use Rattle.copper_shape.specs.Shapes.{IsShape}

pub box_within : (m : ℕ) (x0 x1 y0 y1 : ℤ) (c : Core) → c ≡ area (box_of x0 x1 y0 y1) → neg_ℤ (pos m) ≤ℤ x0 → x1 ≤ℤ pos m → neg_ℤ (pos m) ≤ℤ y0 → y1 ≤ℤ pos m → IsCoreInRoom m c
unfolding IsCoreInRoom
box_within m x0 x1 y0 y1 c e hx0 hx1 hy0 hy1 = rw e (record { left = hx0; right = hx1; top = hy0; bottom = hy1 })

-- the box that the code makes is the one that is meant
pub box_core : (x0 x1 y0 y1 u0 u1 v0 v1 : ℤ) (c : Core) → c ≡ area (box_of u0 u1 v0 v1) → u0 ≡ x0 → u1 ≡ x1 → v0 ≡ y0 → v1 ≡ y1 → c ≡ area (box_of x0 x1 y0 y1)
box_core x0 x1 y0 y1 u0 u1 v0 v1 c e e0 e1 e2 e3 = rw (e0, e1, e2, e3) at e

pub line_within : (m : ℕ) (p q : Point) (c : Core) → c ≡ line (spot p) (spot q) → IsInRoom m p → IsInRoom m q → IsCoreInRoom m c
unfolding IsCoreInRoom
line_within m p q c e hp hq = rw e (record { sx = hp.x; sy = hp.y; tx = hq.x; ty = hq.y })

pub oct_within : (b : Bounds) (c : Core) → c ≡ area (times 4 b) → IsAround 500000000 b → IsCoreInRoom 2000000000 c
unfolding IsCoreInRoom
oct_within b c e h =
    rw e
    (record {
      left = omega (arith, ints, h.x_low);
      right = omega (arith, ints, h.x_high);
      top = omega (arith, ints, h.y_low);
      bottom = omega (arith, ints, h.y_high);
    })

pub is_shape : (c : Core) (r : ℕ) → IsWhole c → IsCoreInRoom 2000000000 c → r ≤ 2000000000 → IsShape (record { core = c; radius = r })
is_shape c r w h l = record { whole = w; within = h; radius = l }
