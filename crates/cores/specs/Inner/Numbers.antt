-- The parts of the decision as the code takes them, each in one test.
use Rattle.std.specs.Prelude.{ℕ, ◌*◌, ◌⊎◌, ℤ, pos, neg_ℤ, ◌+ℤ◌, ◌-ℤ◌, ◌*ℤ◌, ◌≤ℤ◌, ◌<ℤ◌}
use Rattle.plane.specs.Plane.{Bounds}
use Rattle.touching.specs.Core.{Spot}
use Rattle.touching.specs.Inner.Decision.{IsSquare, IsSideClose, AreLinesClose, start_of, end_of, top, top_right, right, bottom_right, bottom, bottom_left, left, top_left}

-- a point beside a line: by the squared length to it, how far it goes along the line, the line's squared length, and how
-- far it goes across
abbrev pub IsBesideBy : ℕ → ℤ → ℤ → ℤ → ℤ → Type 0
IsBesideBy a far along long across =
    ((along ≤ℤ pos 0) × (far ≤ℤ pos a))
    ⊎ (((long ≤ℤ along) × ((far +ℤ long) ≤ℤ (pos a +ℤ pos 2 *ℤ along)))
    ⊎ ((pos 0 <ℤ along) × (along <ℤ long) × ((across *ℤ across) ≤ℤ (pos a *ℤ long))))

-- two lines cross: by the cross product of the two, and those of each with the way between them
abbrev pub AreCrossesOn : ℤ → ℤ → ℤ → Type 0
AreCrossesOn lines first second = IsSquare lines first second ⊎ IsSquare (neg_ℤ lines) (neg_ℤ first) (neg_ℤ second)

-- a line comes close to a side from the top clockwise to the bottom right
abbrev pub IsRightClose : ℕ → Bounds → Spot → Spot → Type 0
IsRightClose a b s t =
    AreLinesClose a (start_of b top) (end_of b top) s t
    ⊎ (AreLinesClose a (start_of b top_right) (end_of b top_right) s t
    ⊎ (AreLinesClose a (start_of b right) (end_of b right) s t ⊎ AreLinesClose a (start_of b bottom_right) (end_of b bottom_right) s t))

-- and to one from the bottom clockwise to the top left
abbrev pub IsLeftClose : ℕ → Bounds → Spot → Spot → Type 0
IsLeftClose a b s t =
    AreLinesClose a (start_of b bottom) (end_of b bottom) s t
    ⊎ (AreLinesClose a (start_of b bottom_left) (end_of b bottom_left) s t
    ⊎ (AreLinesClose a (start_of b left) (end_of b left) s t ⊎ AreLinesClose a (start_of b top_left) (end_of b top_left) s t))

-- a level or upright side comes close to the origin
abbrev pub IsStraightClose : ℕ → Bounds → Type 0
IsStraightClose a b =
    IsSideClose a b.x0 (b.s0 -ℤ b.x0) (b.x0 -ℤ b.d0)
    ⊎ (IsSideClose a b.x1 (b.x1 -ℤ b.d1) (b.s1 -ℤ b.x1)
    ⊎ (IsSideClose a b.y0 (b.s0 -ℤ b.y0) (b.d1 +ℤ b.y0) ⊎ IsSideClose a b.y1 (b.d0 +ℤ b.y1) (b.s1 -ℤ b.y1)))

-- and a slanted one
abbrev pub IsSlantedClose : ℕ → Bounds → Type 0
IsSlantedClose a b =
    IsSideClose (2 * a) b.s0 (b.x0 +ℤ b.x0 -ℤ b.s0) (b.s0 -ℤ (b.y0 +ℤ b.y0))
    ⊎ (IsSideClose (2 * a) b.s1 (b.s1 -ℤ (b.y1 +ℤ b.y1)) (b.x1 +ℤ b.x1 -ℤ b.s1)
    ⊎ (IsSideClose (2 * a) b.d0 (b.x0 +ℤ b.x0 -ℤ b.d0) (b.y1 +ℤ b.y1 +ℤ b.d0)
    ⊎ IsSideClose (2 * a) b.d1 (b.y0 +ℤ b.y0 +ℤ b.d1) (b.x1 +ℤ b.x1 -ℤ b.d1)))
