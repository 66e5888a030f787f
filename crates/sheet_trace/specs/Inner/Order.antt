-- What walks draw, in order.
use Rattle.std.specs.Prelude.{◌≡◌, Bool, List, map, AllPairs}
use Rattle.std.specs.List.Sorted.{IsPermutation}
use Rattle.plane.specs.Covering.{Edge}
use Rattle.rings.specs.Walks.{IsListLess}
use Rattle.rings.specs.Loops.{Loop}
use Rattle.rings.specs.Inner.Tracing.{is_less_list, Drawing, contour_of, loop_of, in_corner_order}
use Rattle.sheet_trace.specs.declared.order.Drawn.{Drawn}

-- the loop that is drawn
abbrev pub loop_in : Drawn → Loop
loop_in d = record { corners = d.corners.items; hole = d.hole }

-- the loops that are drawn
abbrev pub loops_in : List Drawn → List Loop
loops_in ds = map loop_in ds

-- by the lists of corners
abbrev pub is_less_drawn : Drawn → Drawn → Bool
is_less_drawn a b = is_less_list a.corners.items b.corners.items

-- what a walk draws
abbrev pub drawing_of : List Edge → Drawing
drawing_of w = record { walk = w; corners = contour_of w }

-- Where these are the drawings of some walks, in any order, and no two of the walks have one contour: the drawings in order are the loops of
-- the walks by their contours.
unfoldable pub AreLoopsInOrder : List Drawn → List Drawn → Type 0
AreLoopsInOrder old new = (ws : List (List Edge)) → IsPermutation (map (λ w. loop_of (drawing_of w)) ws) (loops_in old)
    → AllPairs IsListLess (map (λ d. d.corners) (in_corner_order ws)) → loops_in new ≡ map loop_of (in_corner_order ws)
