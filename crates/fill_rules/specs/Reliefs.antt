-- Thermal reliefs: the gap round a pad, and the four spokes across it.
--
--           | N |            the gap is kept free by the brush's centres; the spokes
--        ___|   |___         lead from the pad's centre g to as far beyond the gap
--       W___  g  ___E        as the brush reaches
--           |   |
--           | S |
use Rattle.std.specs.Prelude.{ℕ, ◌+◌, ◌/◌, max, ℤ, pos, ◌+ℤ◌, ◌-ℤ◌, Bool, true, false, ◌&&◌, List, [], ◌∷◌, flat_map, unwrap_or}
use Rattle.plane.specs.Plane.{Bounds, box_of}
use Rattle.hulls.specs.Cells.{floor_of}
use Rattle.board_language.specs.declared.board.Pad.{Pad}
use Rattle.board_language.specs.Board.{Board}
use Rattle.fill_rules.specs.Tasks.{Settings}
use Rattle.board_language.specs.Copper.{pad_hulls}
use Rattle.fill_rules.specs.Needs.{units, Role, Foreign, Relieved, Joined, Unjoined, role, is_on, Need, at_need, keep_when}

-- whether a pad of this role is joined by spokes
abbrev pub is_relieved : Role → Bool
is_relieved Relieved = true
is_relieved Foreign = false
is_relieved Joined = false
is_relieved Unjoined = false

-- whether the zone joins the pad by spokes on the layer
abbrev pub is_thermal : Settings → ℕ → Pad → Bool
is_thermal z l p = is_on l p && is_relieved (role z p)

-- half the least thickness, in units, rounded up: how far the brush reaches
abbrev pub brush_radius : Settings → ℕ
brush_radius z = (z.thickness + 3) / 4

-- the gap round a thermal pad, at least one unit: the pad's, else the zone's
abbrev pub gap_of : Settings → Pad → ℕ
gap_of z p = max 1 (units (unwrap_or p.gap z.gap))

-- the pads round which the brush's centres keep a gap
unfoldable pub thermal_needs : Board → Settings → ℕ → List Need
thermal_needs b z l = flat_map (λ (p : Pad). keep_when (is_thermal z l p) (at_need (gap_of z p) (pad_hulls p))) b.pads

-- ---- spokes

-- half a spoke's width: that of the pad's bridges, else the zone's, and no less than the brush reaches
abbrev pub half_bridge : Settings → Pad → ℕ
half_bridge z p = max (brush_radius z) ((unwrap_or p.bridge z.bridge + 3) / 4)

-- the four spokes of a pad, east, south, west, north: from the centre (x, y), by the brush b, the half width h and the
-- reach r beyond the hull
abbrev pub spokes_by : ℤ → ℤ → ℤ → ℤ → ℤ → Bounds → List Bounds
spokes_by x y b h r hull =
    box_of (x -ℤ b) (hull.x1 +ℤ r) (y -ℤ h) (y +ℤ h)
    ∷ box_of (x -ℤ h) (x +ℤ h) (y -ℤ b) (hull.y1 +ℤ r)
    ∷ box_of (hull.x0 -ℤ r) (x +ℤ b) (y -ℤ h) (y +ℤ h)
    ∷ box_of (x -ℤ h) (x +ℤ h) (hull.y0 -ℤ r) (y +ℤ b)
    ∷ []

-- from the pad's centre, rounded down to units
unfoldable pub pad_spokes : Settings → Pad → List Bounds
pad_spokes z p =
    flat_map
    (spokes_by (floor_of 2 p.at.x) (floor_of 2 p.at.y) (pos (brush_radius z)) (pos (half_bridge z p)) (pos (gap_of z p + brush_radius z)))
    (pad_hulls p)

-- all spokes of the thermal pads on the layer, in the order of the pads
unfoldable pub spokes_of : Board → Settings → ℕ → List Bounds
spokes_of b z l = flat_map (λ (p : Pad). keep_when (is_thermal z l p) (pad_spokes z p)) b.pads
