-- The decision on whole numbers: whether two cores are within reach of one another, by comparing sums of products. The
-- reach comes as its square a. Nothing here speaks of points at other scales; `Laws` says that it decides of them all.
use Rattle.std.specs.Prelude.{ℕ, ◌*◌, ◌⊎◌, ℤ, pos, ◌+ℤ◌, ◌-ℤ◌, ◌*ℤ◌, ◌≤ℤ◌, ◌<ℤ◌}
use Rattle.plane.specs.Plane.{Bounds, Within}
use Rattle.touching.specs.Core.{Spot, Core, area, line}

-- how far a goes along b, times the length of b
abbrev pub inner : ℤ → ℤ → ℤ → ℤ → ℤ
inner ax ay bx by = ax *ℤ bx +ℤ ay *ℤ by

-- how far a goes to the side of b, times the length of b
abbrev pub cross : ℤ → ℤ → ℤ → ℤ → ℤ
cross ax ay bx by = ax *ℤ by -ℤ ay *ℤ bx

-- a point and a line, with w from the line's start to the point and v along the line: the point lies before the start and
-- the start is close, or past the end and the end is close, or beside the line and the way across is short
unfoldable pub IsPointBeside : ℕ → ℤ → ℤ → ℤ → ℤ → Type 0
IsPointBeside a wx wy vx vy =
    ((inner wx wy vx vy ≤ℤ pos 0) × (inner wx wy wx wy ≤ℤ pos a))
    ⊎ (((inner vx vy vx vy ≤ℤ inner wx wy vx vy) × ((inner wx wy wx wy +ℤ inner vx vy vx vy) ≤ℤ (pos a +ℤ pos 2 *ℤ inner wx wy vx vy)))
    ⊎ ((pos 0 <ℤ inner wx wy vx vy)
    × (inner wx wy vx vy <ℤ inner vx vy vx vy)
    × ((cross wx wy vx vy *ℤ cross wx wy vx vy) ≤ℤ (pos a *ℤ inner vx vy vx vy))))

-- p comes close to the line from s to t
unfoldable pub IsPointClose : ℕ → Spot → Spot → Spot → Type 0
IsPointClose a p s t = IsPointBeside a (p.x -ℤ s.x) (p.y -ℤ s.y) (t.x -ℤ s.x) (t.y -ℤ s.y)

-- t and u, as parts of s, are in the unit square
pub record IsSquare (s t u : ℤ) : Type 0 where
  pub some : pos 0 <ℤ s
  pub t_low : pos 0 ≤ℤ t
  pub t_high : t ≤ℤ s
  pub u_low : pos 0 ≤ℤ u
  pub u_high : u ≤ℤ s

-- two lines cross, with w from the second's start to the first's, v along the first and y along the second: the common
-- point of the two, drawn on without end, lies on both
unfoldable pub AreLinesCrossing : ℤ → ℤ → ℤ → ℤ → ℤ → ℤ → Type 0
AreLinesCrossing wx wy vx vy yx yy =
    IsSquare (cross vx vy yx yy) (cross yx yy wx wy) (cross vx vy wx wy)
    ⊎ IsSquare (cross yx yy vx vy) (cross wx wy yx yy) (cross wx wy vx vy)

-- the line from s to t and the line from u to v: they cross, or an end of one comes close to the other
unfoldable pub AreLinesClose : ℕ → Spot → Spot → Spot → Spot → Type 0
AreLinesClose a s t u v =
    AreLinesCrossing (s.x -ℤ u.x) (s.y -ℤ u.y) (t.x -ℤ s.x) (t.y -ℤ s.y) (v.x -ℤ u.x) (v.y -ℤ u.y)
    ⊎ ((IsPointClose a s u v ⊎ IsPointClose a t u v) ⊎ (IsPointClose a u s t ⊎ IsPointClose a v s t))

-- a side at the height c, from low to high, comes within the root of a of the origin: straight below, or at an end
unfoldable pub IsSideClose : ℕ → ℤ → ℤ → ℤ → Type 0
IsSideClose a c low high =
    ((low ≤ℤ pos 0) × (pos 0 ≤ℤ high) × ((c *ℤ c) ≤ℤ pos a))
    ⊎ (((pos 0 <ℤ low) × ((c *ℤ c +ℤ low *ℤ low) ≤ℤ pos a)) ⊎ ((high <ℤ pos 0) × ((c *ℤ c +ℤ high *ℤ high) ≤ℤ pos a)))

-- an octagon holds the origin, or one of its sides comes close. Slanted sides stand in x + y and x - y, which double
-- squared lengths.
unfoldable pub IsOriginClose : ℕ → Bounds → Type 0
IsOriginClose a b =
    Within b (pos 0) (pos 0)
    ⊎ (IsSideClose a b.x0 (b.s0 -ℤ b.x0) (b.x0 -ℤ b.d0)
    ⊎ (IsSideClose a b.x1 (b.x1 -ℤ b.d1) (b.s1 -ℤ b.x1)
    ⊎ (IsSideClose a b.y0 (b.s0 -ℤ b.y0) (b.d1 +ℤ b.y0)
    ⊎ (IsSideClose a b.y1 (b.d0 +ℤ b.y1) (b.s1 -ℤ b.y1)
    ⊎ (IsSideClose (2 * a) b.s0 (b.x0 +ℤ b.x0 -ℤ b.s0) (b.s0 -ℤ (b.y0 +ℤ b.y0))
    ⊎ (IsSideClose (2 * a) b.s1 (b.s1 -ℤ (b.y1 +ℤ b.y1)) (b.x1 +ℤ b.x1 -ℤ b.s1)
    ⊎ (IsSideClose (2 * a) b.d0 (b.x0 +ℤ b.x0 -ℤ b.d0) (b.y1 +ℤ b.y1 +ℤ b.d0)
    ⊎ IsSideClose (2 * a) b.d1 (b.y0 +ℤ b.y0 +ℤ b.d1) (b.x1 +ℤ b.x1 -ℤ b.d1))))))))

-- all steps from a point of c to a point of b
unfoldable pub steps_of : Bounds → Bounds → Bounds
steps_of b c =
    record {
      x0 = b.x0 -ℤ c.x1;
      x1 = b.x1 -ℤ c.x0;
      y0 = b.y0 -ℤ c.y1;
      y1 = b.y1 -ℤ c.y0;
      s0 = b.s0 -ℤ c.s1;
      s1 = b.s1 -ℤ c.s0;
      d0 = b.d0 -ℤ c.d1;
      d1 = b.d1 -ℤ c.d0;
    }

-- the sides of an area, clockwise on the screen; a side may be a single corner
pub data Side : Type 0 where
  top : Side
  top_right : Side
  right : Side
  bottom_right : Side
  bottom : Side
  bottom_left : Side
  left : Side
  top_left : Side

-- the corner that a side starts at
unfoldable pub start_of : Bounds → Side → Spot
start_of b top = record { x = b.s0 -ℤ b.y0; y = b.y0 }
start_of b top_right = record { x = b.d1 +ℤ b.y0; y = b.y0 }
start_of b right = record { x = b.x1; y = b.x1 -ℤ b.d1 }
start_of b bottom_right = record { x = b.x1; y = b.s1 -ℤ b.x1 }
start_of b bottom = record { x = b.s1 -ℤ b.y1; y = b.y1 }
start_of b bottom_left = record { x = b.d0 +ℤ b.y1; y = b.y1 }
start_of b left = record { x = b.x0; y = b.x0 -ℤ b.d0 }
start_of b top_left = record { x = b.x0; y = b.s0 -ℤ b.x0 }

-- the corner that it ends at: the next side's start
unfoldable pub end_of : Bounds → Side → Spot
end_of b top = start_of b top_right
end_of b top_right = start_of b right
end_of b right = start_of b bottom_right
end_of b bottom_right = start_of b bottom
end_of b bottom = start_of b bottom_left
end_of b bottom_left = start_of b left
end_of b left = start_of b top_left
end_of b top_left = start_of b top

-- a line starts in an area, or comes close to one of its sides
unfoldable pub IsAreaClose : ℕ → Bounds → Spot → Spot → Type 0
IsAreaClose a b s t = Within b s.x s.y ⊎ ((k : Side) × AreLinesClose a (start_of b k) (end_of b k) s t)

-- two cores are close, by cases on what they are
unfoldable pub AreClose : ℕ → Core → Core → Type 0
AreClose a (area b) (area c) = IsOriginClose a (steps_of b c)
AreClose a (area b) (line s t) = IsAreaClose a b s t
AreClose a (line s t) (area b) = IsAreaClose a b s t
AreClose a (line s t) (line u v) = AreLinesClose a s t u v
