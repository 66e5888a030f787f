-- The strips of a list of octagons. The rows of all their corners and of all crossings of their sides cut the plane, and
-- between two neighbouring rows the runs of their union are trapezoids:
--        /\    /\
--       /  \  /  \       two strips
--   ---/----\/----\---   row of a crossing
--     /            \     one strip
--   --\            /--   row of corners
--      \          /      one strip
-- Octagons and strips are in one unit, in which the bounds of octagons are even: in nanometres, if octagons are on the grid.
use Rattle.std.specs.Prelude.{◌≡◌, ◌⊎◌, ◌↔◌, List, ℤ, pos, ◌+ℤ◌, ◌-ℤ◌, ◌*ℤ◌, ◌≤ℤ◌, ◌<ℤ◌, Any, All, Contains, AllPairs, map}
use Rattle.plane.specs.Plane.{PlanePoint, Bounds, In, StrictlyIn, IsTight, times}
use Rattle.strips.specs.declared.Strip.{Strip}

-- the octagons of the grid, of which a unit is 2 nm, in nanometres
abbrev pub in_nanometres : List Bounds → List Bounds
in_nanometres octs = map (times 2) octs

-- some point is inside the octagon, off its edge: it is neither a point nor a line
unfoldable pub HasInside : Bounds → Type 0
HasInside b = (p : PlanePoint) × StrictlyIn b p

-- no two opposite sides of the octagon lie on each other; of a tight one it is the same (`inside_law`)
pub record IsStout (b : Bounds) : Type 0 where
  pub x : b.x0 <ℤ b.x1
  pub y : b.y0 <ℤ b.y1
  pub s : b.s0 <ℤ b.s1
  pub d : b.d0 <ℤ b.d1

-- p is in the closed trapezoid: between its rows and between its sides
pub record IsInStrip (s : Strip) (p : PlanePoint) : Type 0 where
  pub top : (pos p.scale *ℤ s.top) ≤ℤ p.y
  pub bottom : p.y ≤ℤ (pos p.scale *ℤ s.bottom)
  pub left : ((s.left_end -ℤ s.left) *ℤ (p.y -ℤ pos p.scale *ℤ s.top)) ≤ℤ ((s.bottom -ℤ s.top) *ℤ (p.x -ℤ pos p.scale *ℤ s.left))
  pub right : ((s.bottom -ℤ s.top) *ℤ (p.x -ℤ pos p.scale *ℤ s.right)) ≤ℤ ((s.right_end -ℤ s.right) *ℤ (p.y -ℤ pos p.scale *ℤ s.top))

-- the four directions of an octagon's sides; a rising side goes to the right as y grows, a falling one to the left
pub data Direction : Type 0 where
  Level : Direction
  Upright : Direction
  Rising : Direction
  Falling : Direction

-- p is on a side of the octagon that has this direction; a corner is on two sides
unfoldable pub IsOnSide : Bounds → Direction → PlanePoint → Type 0
IsOnSide b Level p = In b p × ((p.y ≡ pos p.scale *ℤ b.y0) ⊎ (p.y ≡ pos p.scale *ℤ b.y1))
IsOnSide b Upright p = In b p × ((p.x ≡ pos p.scale *ℤ b.x0) ⊎ (p.x ≡ pos p.scale *ℤ b.x1))
IsOnSide b Rising p = In b p × ((p.x -ℤ p.y ≡ pos p.scale *ℤ b.d0) ⊎ (p.x -ℤ p.y ≡ pos p.scale *ℤ b.d1))
IsOnSide b Falling p = In b p × ((p.x +ℤ p.y ≡ pos p.scale *ℤ b.s0) ⊎ (p.x +ℤ p.y ≡ pos p.scale *ℤ b.s1))

-- p is a crossing of two octagons: it is on sides of two different directions, so sides that overlap along a line don't cross. A
-- crossing of an octagon with itself is a corner. Whether p is hidden inside a third octagon doesn't matter.
unfoldable pub IsCrossing : Bounds → Bounds → PlanePoint → Type 0
IsCrossing a b p = (i : Direction) × (j : Direction) × (i ≡ j → ⊥) × IsOnSide a i p × IsOnSide b j p

-- the row r cuts the plane: a corner of one of the octagons or a crossing of two of them is in it
unfoldable pub IsCutRow : List Bounds → ℤ → Type 0
IsCutRow os r = (a : Bounds) × (b : Bounds) × Contains os a × Contains os b × (p : PlanePoint) × IsCrossing a b p × (p.y ≡ pos p.scale *ℤ r)

-- the rows t and u are neighbours among those that cut
pub record IsSlab (os : List Bounds) (t u : ℤ) : Type 0 where
  pub top : IsCutRow os t
  pub bottom : IsCutRow os u
  pub down : t <ℤ u
  pub clean : (r : ℤ) → t <ℤ r → r <ℤ u → IsCutRow os r → ⊥

-- a side goes from l in the row t to e in the row u: upright, rising or falling
abbrev pub IsSloped : ℤ → ℤ → ℤ → ℤ → Type 0
IsSloped t u l e = (e ≡ l) ⊎ ((e -ℤ l ≡ u -ℤ t) ⊎ (e -ℤ l ≡ t -ℤ u))

-- the strip has its top above its bottom, sides of the directions of octagons, and its left side on the left of its right side
pub record IsTrapezoid (s : Strip) : Type 0 where
  pub down : s.top <ℤ s.bottom
  pub left : IsSloped s.top s.bottom s.left s.left_end
  pub right : IsSloped s.top s.bottom s.right s.right_end
  pub start : s.left ≤ℤ s.right
  pub finish : s.left_end ≤ℤ s.right_end
  pub wide : (s.left +ℤ s.left_end) <ℤ (s.right +ℤ s.right_end)

-- a is on the left of b, and strictly between their rows there is a gap between the two, though they may share a corner
pub record AreApartInSlab (a b : Strip) : Type 0 where
  pub start : a.right ≤ℤ b.left
  pub finish : a.right_end ≤ℤ b.left_end
  pub gap : (a.right +ℤ a.right_end) <ℤ (b.left +ℤ b.left_end)

-- by top, and between the same two rows from left to right
abbrev pub IsStripBefore : Strip → Strip → Type 0
IsStripBefore a b = (a.bottom ≤ℤ b.top) ⊎ ((a.top ≡ b.top) × (a.bottom ≡ b.bottom) × AreApartInSlab a b)

-- p is strictly between the rows t and u
pub record IsBetweenRows (t u : ℤ) (p : PlanePoint) : Type 0 where
  pub top : (pos p.scale *ℤ t) <ℤ p.y
  pub bottom : p.y <ℤ (pos p.scale *ℤ u)

-- the strips of the octagons: trapezoids between neighbouring rows, in order, such that strictly between the rows they have
-- exactly the points of the union. Since there is a gap between each two of them, each is a run that can't be made longer;
-- octagons have just one such list (`once_law`).
pub record AreStrips (os : List Bounds) (ss : List Strip) : Type 0 where
  pub slabs : All (λ s. IsSlab os s.top s.bottom) ss
  pub shapes : All (λ s. IsTrapezoid s) ss
  pub order : AllPairs IsStripBefore ss
  pub runs : (t u : ℤ) (p : PlanePoint) → IsSlab os t u → IsBetweenRows t u p → Any (λ s. IsInStrip s p) ss ↔ Any (λ b. In b p) os

-- the strips cover exactly the union: every point, also along the rows
abbrev pub AreCovering : List Bounds → List Strip → Type 0
AreCovering os ss = (p : PlanePoint) → Any (λ s. IsInStrip s p) ss ↔ Any (λ b. In b p) os

-- what an octagon of a sheet is, in nanometres: tight, with even bounds, and with points inside
pub record IsPlate (b : Bounds) : Type 0 where
  pub tight : IsTight b
  pub even : (c : Bounds) × (b ≡ times 2 c)
  pub inside : HasInside b
