-- The level parts of a sheet's boundary, found from corner to corner.
use Rattle.std.specs.Prelude.{Bool, false, not, ◌&&◌, ◌||◌, int_lt, int_le, List, [], ◌∷◌, ◌++◌, if◌then◌else◌}
use Rattle.std.specs.Ordering.{int_eq}
use Rattle.grid_num.specs.declared.Point.{Point}
use Rattle.strips.specs.declared.Strip.{Strip}
use Rattle.sheet_trace.specs.declared.edge.BoundaryEdge.{BoundaryEdge}

-- the strip's first row, or its last row, is above the corner's row, or is that row and begins at the corner or on its left
unfoldable pub begins_by : Point → Strip → Bool
begins_by c s = int_lt s.top c.y || (int_eq s.top c.y && int_le s.left c.x)

-- the same of its last row
unfoldable pub ends_by : Point → Strip → Bool
ends_by c s = int_lt s.bottom c.y || (int_eq s.bottom c.y && int_le s.left_end c.x)

-- there is copper just right of the corner in the strip's first row, or in its last row
unfoldable pub begins_under : Point → Strip → Bool
begins_under c s = int_eq s.top c.y && (int_le s.left c.x && int_lt c.x s.right)

-- in its last row
unfoldable pub ends_over : Point → Strip → Bool
ends_over c s = int_eq s.bottom c.y && (int_le s.left_end c.x && int_lt c.x s.right_end)

-- whether one of the strips has it so
unfoldable pub has_below : Point → List Strip → Bool
has_below c [] = false
has_below c (s ∷ ss) = begins_under c s || has_below c ss

-- in its last row
unfoldable pub has_above : Point → List Strip → Bool
has_above c [] = false
has_above c (s ∷ ss) = ends_over c s || has_above c ss

-- the level part from the corner a to the corner b, where they are in one row, b on the right: to the right with copper below it alone, to
-- the left with copper above it alone
unfoldable pub level_between : List Strip → Point → Point → List BoundaryEdge
level_between ss a b =
    if int_lt a.y b.y || int_le b.x a.x
    then []
    else
    (if has_below a ss && not (has_above a ss)
    then record { start = a; finish = b } ∷ []
    else (if has_above a ss && not (has_below a ss) then record { start = b; finish = a } ∷ [] else []))

-- the level parts between corners that follow one another
unfoldable pub level_parts : List Strip → List Point → List BoundaryEdge
level_parts ss [] = []
level_parts ss (a ∷ []) = []
level_parts ss (a ∷ b ∷ cs) = level_between ss a b ++ level_parts ss (b ∷ cs)
