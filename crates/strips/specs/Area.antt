-- How much copper strips have.
use Rattle.std.specs.Prelude.{List, [], ◌∷◌, ℤ, pos, ◌+ℤ◌, ◌-ℤ◌, ◌*ℤ◌}
use Rattle.strips.specs.declared.Strip.{Strip}

-- twice the area of a trapezoid: its height times the sum of its widths at the top and at the bottom
abbrev pub strip_area2 : Strip → ℤ
strip_area2 s = (s.bottom -ℤ s.top) *ℤ ((s.right -ℤ s.left) +ℤ (s.right_end -ℤ s.left_end))

-- strips share no more than their edges, so their areas add up: twice the area of all of them, in square nanometres
unfoldable pub area2_of : List Strip → ℤ
area2_of [] = pos 0
area2_of (s ∷ ss) = strip_area2 s +ℤ area2_of ss
