-- What copper is: all that lies within a radius of a core, and when two pieces of it touch. Points are those of every
-- scale, in halves of a nanometre.
use Rattle.std.specs.Prelude.{◌≡◌, ℕ, ◌≤◌, ◌+◌, ◌*◌, ℤ, pos, ◌+ℤ◌, ◌*ℤ◌, ◌≤ℤ◌}
use Rattle.plane.specs.Plane.{PlanePoint, Bounds, In, IsTight, minus, scaled_dist_sq}
use Rattle.grid_num.specs.declared.Point.{Point}

-- a place with whole coordinates, as the end of a track
pub record Spot : Type 0 where
  pub x : ℤ
  pub y : ℤ

-- a point of the code as a place of the plane
abbrev pub spot : Point → Spot
spot p = record { x = p.x; y = p.y }

-- the middle of a piece of copper: an area (of a via a point, of a pad a box, of a cell of a fill an octagon), or the
-- line that a track follows
pub data Core : Type 0 where
  area : Bounds → Core
  line : Spot → Spot → Core

-- p is on the straight way from s to t: a mean of the two, with the weights i and j
pub record OnLine (s t : Spot) (p : PlanePoint) : Type 0 where
  pub i : ℕ
  pub j : ℕ
  pub some : 1 ≤ i + j
  pub x : pos (i + j) *ℤ p.x ≡ pos p.scale *ℤ (pos i *ℤ s.x +ℤ pos j *ℤ t.x)
  pub y : pos (i + j) *ℤ p.y ≡ pos p.scale *ℤ (pos i *ℤ s.y +ℤ pos j *ℤ t.y)

-- the points of a core, its edge counted in
unfoldable pub InCore : Core → PlanePoint → Type 0
InCore (area b) p = In b p
InCore (line s t) p = OnLine s t p

-- each bound of an area is attained; a line is always whole
unfoldable pub IsWhole : Core → Type 0
IsWhole (area b) = IsTight b
IsWhole (line s t) = Unit {0}

-- p and q are at most r apart: their squared distance is at most r * r, at their common scale
unfoldable pub IsReached : ℕ → PlanePoint → PlanePoint → Type 0
IsReached r p q = scaled_dist_sq p q ≤ℤ pos ((r * (minus p q).scale) * (r * (minus p q).scale))

-- the copper of a core and a radius: what is at most the radius away from some point of the core
unfoldable pub InCopper : Core → ℕ → PlanePoint → Type 0
InCopper c r p = (q : PlanePoint) × InCore c q × IsReached r q p

-- two cores are within reach of one another: some point of the one is at most r away from some point of the other. Two
-- pieces of copper touch where their cores do so at the sum of their radii; a distance of just that sum touches.
unfoldable pub Touches : ℕ → Core → Core → Type 0
Touches r c d = (p : PlanePoint) × (q : PlanePoint) × InCore c p × InCore d q × IsReached r p q
