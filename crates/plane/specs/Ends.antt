-- The count of crossings with the end of greater y in place of that of lesser y.
use Rattle.std.specs.Prelude.{ℕ, ◌+◌, ◌&&◌, cond, pos, ◌-ℤ◌, ◌*ℤ◌, int_lt, int_le}
use Rattle.plane.specs.Plane.{PlanePoint}
use Rattle.grid_num.specs.declared.Point.{Point}
use Rattle.plane.specs.Covering.{Edge}

-- 1 where the way from a down to b crosses the row of p strictly to its left, the end of greater y counted in alone
abbrev pub down_crossing_below : Point → Point → PlanePoint → ℕ
down_crossing_below a b p =
    cond (int_lt (pos p.scale *ℤ a.y) p.y && (int_le p.y (pos p.scale *ℤ b.y) && int_lt ((b.x -ℤ a.x) *ℤ (p.y -ℤ pos p.scale *ℤ a.y)) ((b.y -ℤ a.y) *ℤ (p.x -ℤ pos p.scale *ℤ a.x)))) 1 0

-- the same for an edge in either direction
unfoldable pub crossing_below : PlanePoint → Edge → ℕ
crossing_below p e = down_crossing_below e.start e.finish p + down_crossing_below e.finish e.start p
