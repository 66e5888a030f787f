-- The corners of an area, as the code computes them.
use Rattle.std.proofs.Common.{◌≡◌, arith}
use Rattle.std.specs.Prelude.{ℤ, ◌+ℤ◌, ◌-ℤ◌}
use Rattle.std.proofs.lemmas.Int.{ints}
use Rattle.plane.specs.Plane.{Bounds, IsTight}
use Rattle.plane.specs.Narrow.{IsNearZero}
use Rattle.touching.specs.Core.{Spot}
use Rattle.cores.specs.Room.{IsInRoom, IsAreaInRoom}
use Rattle.cores.proofs.Plain.{r64}

-- all bounds are small
pub record IsSmallArea (b : Bounds) : Type 0 where
  pub x0 : IsNearZero 2400000000 b.x0
  pub x1 : IsNearZero 2400000000 b.x1
  pub y0 : IsNearZero 2400000000 b.y0
  pub y1 : IsNearZero 2400000000 b.y1
  pub s0 : IsNearZero 2400000000 b.s0
  pub s1 : IsNearZero 2400000000 b.s1
  pub d0 : IsNearZero 2400000000 b.d0
  pub d1 : IsNearZero 2400000000 b.d1

pub small : (b : Bounds) → IsTight b → IsAreaInRoom 1200000000 b → IsSmallArea b
small b t m = record {
  x0 = record { low = omega (arith, ints); high = omega (arith, ints) };
  x1 = record { low = omega (arith, ints); high = omega (arith, ints) };
  y0 = record { low = omega (arith, ints); high = omega (arith, ints) };
  y1 = record { low = omega (arith, ints); high = omega (arith, ints) };
  s0 = record { low = omega (arith, ints); high = omega (arith, ints) };
  s1 = record { low = omega (arith, ints); high = omega (arith, ints) };
  d0 = record { low = omega (arith, ints); high = omega (arith, ints) };
  d1 = record { low = omega (arith, ints); high = omega (arith, ints) };
}

abbrev made : ℤ → ℤ → Spot
made x y = record { x = x; y = y }

pub place_is : (x y u v : ℤ) → x ≡ u → y ≡ v → made x y ≡ made u v
place_is x y u v e f = cc

pub top_room : (b : Bounds) → IsTight b → IsAreaInRoom 1200000000 b → IsInRoom 1200000000 (record { x = r64 (r64 b.s0 -ℤ r64 b.y0); y = r64 b.y0 })
top_room b t m = record {
  x = record { low = omega (arith, ints); high = omega (arith, ints) };
  y = record { low = omega (arith, ints); high = omega (arith, ints) };
}

pub top_right_room : (b : Bounds) → IsTight b → IsAreaInRoom 1200000000 b → IsInRoom 1200000000 (record { x = r64 (r64 b.d1 +ℤ r64 b.y0); y = r64 b.y0 })
top_right_room b t m = record {
  x = record { low = omega (arith, ints); high = omega (arith, ints) };
  y = record { low = omega (arith, ints); high = omega (arith, ints) };
}

pub right_room : (b : Bounds) → IsTight b → IsAreaInRoom 1200000000 b → IsInRoom 1200000000 (record { x = r64 b.x1; y = r64 (r64 b.x1 -ℤ r64 b.d1) })
right_room b t m = record {
  x = record { low = omega (arith, ints); high = omega (arith, ints) };
  y = record { low = omega (arith, ints); high = omega (arith, ints) };
}

pub bottom_right_room : (b : Bounds) → IsTight b → IsAreaInRoom 1200000000 b → IsInRoom 1200000000 (record { x = r64 b.x1; y = r64 (r64 b.s1 -ℤ r64 b.x1) })
bottom_right_room b t m = record {
  x = record { low = omega (arith, ints); high = omega (arith, ints) };
  y = record { low = omega (arith, ints); high = omega (arith, ints) };
}

pub bottom_room : (b : Bounds) → IsTight b → IsAreaInRoom 1200000000 b → IsInRoom 1200000000 (record { x = r64 (r64 b.s1 -ℤ r64 b.y1); y = r64 b.y1 })
bottom_room b t m = record {
  x = record { low = omega (arith, ints); high = omega (arith, ints) };
  y = record { low = omega (arith, ints); high = omega (arith, ints) };
}

pub bottom_left_room : (b : Bounds) → IsTight b → IsAreaInRoom 1200000000 b → IsInRoom 1200000000 (record { x = r64 (r64 b.d0 +ℤ r64 b.y1); y = r64 b.y1 })
bottom_left_room b t m = record {
  x = record { low = omega (arith, ints); high = omega (arith, ints) };
  y = record { low = omega (arith, ints); high = omega (arith, ints) };
}

pub left_room : (b : Bounds) → IsTight b → IsAreaInRoom 1200000000 b → IsInRoom 1200000000 (record { x = r64 b.x0; y = r64 (r64 b.x0 -ℤ r64 b.d0) })
left_room b t m = record {
  x = record { low = omega (arith, ints); high = omega (arith, ints) };
  y = record { low = omega (arith, ints); high = omega (arith, ints) };
}

pub top_left_room : (b : Bounds) → IsTight b → IsAreaInRoom 1200000000 b → IsInRoom 1200000000 (record { x = r64 b.x0; y = r64 (r64 b.s0 -ℤ r64 b.x0) })
top_left_room b t m = record {
  x = record { low = omega (arith, ints); high = omega (arith, ints) };
  y = record { low = omega (arith, ints); high = omega (arith, ints) };
}
