-- Spokes, pad by pad and side by side.
use Rattle.std.specs.Prelude.{ℕ, ℤ, pos, ◌+ℤ◌, ◌-ℤ◌, ◌≤◌, ◌^◌, List}
use Rattle.plane.specs.Plane.{Bounds, Within, box_of}
use Rattle.octagon.specs.Room.{IsAround}
use Rattle.cores.specs.Room.{IsInRoom}
use Rattle.board_language.specs.declared.board.Pad.{Pad}
use Rattle.fill_rules.specs.Tasks.{Settings}
use Rattle.fill_rules.specs.Needs.{keep_when}
use Rattle.fill_rules.specs.Reliefs.{is_thermal, pad_spokes, spokes_by}
use Rattle.knockouts.specs.declared.thermal.Relief.{Relief}

-- the hull holds the place that the spokes begin at, and lies within reach
pub record IsSpokeHull (x y : ℤ) (h : Bounds) : Type 0 where
  pub centre : Within h x y
  pub within : IsAround 1000000000 h

-- the lengths lie within reach
pub record IsRelief (r : Relief) : Type 0 where
  pub centre : IsInRoom 250000000 r.centre
  pub brush : r.brush ≤ 2 ^ 30
  pub half : r.half ≤ 2 ^ 30

-- the four spokes of a pad that is joined by spokes, none of another
abbrev pub thermal_spokes : Settings → ℕ → Pad → List Bounds
thermal_spokes z l p = keep_when (is_thermal z l p) (pad_spokes z p)

-- those across the gap round one hull
abbrev pub four_spokes : Relief → Bounds → List Bounds
four_spokes r = spokes_by r.centre.x r.centre.y (pos r.brush) (pos r.half) (pos r.reach)

-- from the brush on the left of the centre to the reach on the right of the hull, and half a bridge to either side
abbrev pub east_spoke : Relief → Bounds → Bounds
east_spoke r h = box_of (r.centre.x -ℤ pos r.brush) (h.x1 +ℤ pos r.reach) (r.centre.y -ℤ pos r.half) (r.centre.y +ℤ pos r.half)

-- from the brush above the centre to the reach below the hull
abbrev pub south_spoke : Relief → Bounds → Bounds
south_spoke r h = box_of (r.centre.x -ℤ pos r.half) (r.centre.x +ℤ pos r.half) (r.centre.y -ℤ pos r.brush) (h.y1 +ℤ pos r.reach)

-- from the reach on the left of the hull to the brush on the right of the centre
abbrev pub west_spoke : Relief → Bounds → Bounds
west_spoke r h = box_of (h.x0 -ℤ pos r.reach) (r.centre.x +ℤ pos r.brush) (r.centre.y -ℤ pos r.half) (r.centre.y +ℤ pos r.half)

-- from the reach above the hull to the brush below the centre
abbrev pub north_spoke : Relief → Bounds → Bounds
north_spoke r h = box_of (r.centre.x -ℤ pos r.half) (r.centre.x +ℤ pos r.half) (h.y0 -ℤ pos r.reach) (r.centre.y +ℤ pos r.brush)
