-- Lists of strips that have the same points: their areas, loops and rings.
use Rattle.std.specs.Prelude.{◌≡◌, ◌↔◌, ◌++◌, List, ℤ, pos, ◌*ℤ◌, Any, Contains}
use Rattle.std.specs.List.Sorted.{IsPermutation}
use Rattle.plane.specs.Plane.{PlanePoint, Bounds}
use Rattle.grid_num.specs.declared.Point.{Point}
use Rattle.plane.specs.Covering.{Edge}
use Rattle.strips.specs.declared.Strip.{Strip}
use Rattle.strips.specs.Strips.{IsInStrip, AreCovering}
use Rattle.strips.specs.Area.{area2_of}
use Rattle.rings.specs.Boundary.{AreBoundary}
use Rattle.rings.specs.Loops.{Loop}
use Rattle.rings.specs.Sheets.{AreLoops, AreRings}
use Rattle.rings.specs.Laws.{AreOrderly}
use Rattle.same_points.specs.Cuts.{cut, all_cut, strip_rows}
use Rattle.same_points.specs.Edges.{parted}

-- each point is on both or on none
unfoldable pub HaveSamePoints : List Strip → List Strip → Type 0
HaveSamePoints ss ts = (p : PlanePoint) → Any (λ s. IsInStrip s p) ss ↔ Any (λ s. IsInStrip s p) ts

-- p is in none of the rows
unfoldable pub IsOff : List ℤ → PlanePoint → Type 0
IsOff rs p = (r : ℤ) → Contains rs r → p.y ≡ pos p.scale *ℤ r → ⊥

-- each point off these rows is on both or on none
unfoldable pub HaveSameOff : List ℤ → List Strip → List Strip → Type 0
HaveSameOff rs ss ts = (p : PlanePoint) → IsOff rs p → Any (λ s. IsInStrip s p) ss ↔ Any (λ s. IsInStrip s p) ts

-- the two have the same area, the same loops and the same rings
pub record AreDrawnAlike (ss ts : List Strip) : Type 0 where
  pub area : area2_of ss ≡ area2_of ts
  pub loops : (loops : List Loop) → AreLoops ss loops ↔ AreLoops ts loops
  pub rings : (rings : List (List Point)) → AreRings ss rings ↔ AreRings ts rings

-- ---- one cut
-- strips in order that are cut at a row are in order
abbrev pub CutOrderLaw : Type 0
CutOrderLaw = (r : ℤ) (ss : List Strip) → AreOrderly ss → AreOrderly (cut r ss)

-- they have the same points
abbrev pub CutPointsLaw : Type 0
CutPointsLaw = (r : ℤ) (ss : List Strip) → AreOrderly ss → HaveSamePoints ss (cut r ss)

-- their boundary is the old one, cut at the row; its level parts are the same
abbrev pub CutBoundaryLaw : Type 0
CutBoundaryLaw =
    (r : ℤ) (ss : List Strip) (es : List Edge) → AreOrderly ss → AreBoundary ss es
    → (fs : List Edge) × AreBoundary (cut r ss) fs × IsPermutation (parted r es) fs

-- so they are drawn alike
abbrev pub CutDrawnLaw : Type 0
CutDrawnLaw = (r : ℤ) (ss : List Strip) → AreOrderly ss → AreDrawnAlike ss (cut r ss)

-- ---- two lists
-- two lists that have the same points off some rows, cut at these and at all rows of both, are one list
abbrev pub SameListLaw : Type 0
SameListLaw =
    (rs : List ℤ) (ss ts : List Strip) → AreOrderly ss → AreOrderly ts → HaveSameOff rs ss ts
    → all_cut (rs ++ (strip_rows ss ++ strip_rows ts)) ss ≡ all_cut (rs ++ (strip_rows ss ++ strip_rows ts)) ts

-- so they have the same points in these rows, too
abbrev pub SameOutlinesLaw : Type 0
SameOutlinesLaw =
    (rs : List ℤ) (ss ts : List Strip) → AreOrderly ss → AreOrderly ts → HaveSameOff rs ss ts
    → HaveSamePoints ss ts

-- strips that cover the same octagons have the same points
abbrev pub SameCoverLaw : Type 0
SameCoverLaw = (os : List Bounds) (ss ts : List Strip) → AreCovering os ss → AreCovering os ts → HaveSamePoints ss ts

-- lists with the same points, whichever rows they are cut at, are drawn alike
abbrev pub SameDrawnLaw : Type 0
SameDrawnLaw = (ss ts : List Strip) → AreOrderly ss → AreOrderly ts → HaveSamePoints ss ts → AreDrawnAlike ss ts
