-- The chains of corners of octagons and of rectangles.
use Rattle.std.specs.Prelude.{ℤ, ◌+ℤ◌, ◌-ℤ◌, Bool, not, ◌&&◌, List, [], ◌∷◌, map}
use Rattle.std.specs.List.{filter}
use Rattle.std.specs.Ordering.{int_eq}
use Rattle.plane.specs.Plane.{Bounds}
use Rattle.grid_num.specs.declared.Point.{Point}
use Rattle.plane.specs.Covering.{Edge, edges_of}

-- the corners, clockwise on a screen whose y grows downward, from the left end of the top edge; coinciding corners are
-- repeated
--            0 ____ 1
--             /    \
--           7 |    | 2
--           6 |    | 3
--             \____/
--            5      4
abbrev pub corners_of : Bounds → List Point
corners_of b =
    record { x = b.s0 -ℤ b.y0; y = b.y0 }
    ∷ record { x = b.d1 +ℤ b.y0; y = b.y0 }
    ∷ record { x = b.x1; y = b.x1 -ℤ b.d1 }
    ∷ record { x = b.x1; y = b.s1 -ℤ b.x1 }
    ∷ record { x = b.s1 -ℤ b.y1; y = b.y1 }
    ∷ record { x = b.d0 +ℤ b.y1; y = b.y1 }
    ∷ record { x = b.x0; y = b.x0 -ℤ b.d0 }
    ∷ record { x = b.x0; y = b.s0 -ℤ b.x0 }
    ∷ []

-- the four corners of the rectangle from x0 to x1 and from y0 to y1, in the same order
abbrev pub box_corners : ℤ → ℤ → ℤ → ℤ → List Point
box_corners x0 x1 y0 y1 =
    record { x = x0; y = y0 } ∷ record { x = x1; y = y0 } ∷ record { x = x1; y = y1 } ∷ record { x = x0; y = y1 } ∷ []

-- whether the edge goes from a corner to another one
abbrev pub has_length : Edge → Bool
has_length e = not (int_eq e.start.x e.finish.x && int_eq e.start.y e.finish.y)

-- the list, or the one corner where the list is empty
abbrev pub or_one : Point → List Point → List Point
or_one a [] = a ∷ []
or_one a (c ∷ cs) = c ∷ cs

-- the chain without repeats: in their order, the corners that differ from the next one around the chain, so that of
-- equal neighbours one is kept; where all corners are one place, that corner alone
unfoldable pub without_repeats : List Point → List Point
without_repeats [] = []
without_repeats (a ∷ cs) = or_one a (map (λ e. e.start) (filter has_length (edges_of (a ∷ cs))))
