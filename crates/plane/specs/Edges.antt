-- Edges that are turned, cut, or gone both ways.
use Rattle.std.specs.Prelude.{◌≡◌, ◌⊎◌, List, [], ◌∷◌, neg_ℤ, ◌-ℤ◌, ◌≤ℤ◌}
use Rattle.grid_num.specs.declared.Point.{Point}
use Rattle.plane.specs.Covering.{Edge, Between}

-- the same edge the other way
unfoldable pub turned_back : Edge → Edge
turned_back e = record { start = e.finish; finish = e.start }

-- each of the edges there and back: a slit
unfoldable pub both_ways : List Edge → List Edge
both_ways [] = []
both_ways (e ∷ es) = e ∷ turned_back e ∷ both_ways es

-- level, upright or slanted by 45 degrees
unfoldable pub IsOctilinear : Edge → Type 0
IsOctilinear e =
    (e.start.y ≡ e.finish.y) ⊎ ((e.start.x ≡ e.finish.x)
    ⊎ ((e.finish.x -ℤ e.start.x ≡ e.finish.y -ℤ e.start.y) ⊎ (e.finish.x -ℤ e.start.x ≡ neg_ℤ (e.finish.y -ℤ e.start.y))))

-- each edge is level, upright or slanted by 45 degrees
unfoldable pub AreOctilinear : List Edge → Type 0
AreOctilinear [] = Unit {0}
AreOctilinear (e ∷ es) = IsOctilinear e × AreOctilinear es

-- b is on the way from a down to c, along one upright or slanted line
unfoldable pub IsOnWay : Point → Point → Point → Type 0
IsOnWay a b c =
    (a.y ≤ℤ b.y) × (b.y ≤ℤ c.y)
    × (((a.x ≡ b.x) × (b.x ≡ c.x))
    ⊎ (((b.x -ℤ a.x ≡ b.y -ℤ a.y) × (c.x -ℤ b.x ≡ c.y -ℤ b.y)) ⊎ ((b.x -ℤ a.x ≡ neg_ℤ (b.y -ℤ a.y)) × (c.x -ℤ b.x ≡ neg_ℤ (c.y -ℤ b.y)))))

-- b is on the way from a to c, along one line of the eight directions
unfoldable pub IsStraight : Point → Point → Point → Type 0
IsStraight a b c = IsOnWay a b c ⊎ (IsOnWay c b a ⊎ ((a.y ≡ b.y) × (b.y ≡ c.y) × Between a.x c.x b.x))
