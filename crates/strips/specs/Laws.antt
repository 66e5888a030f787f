-- The laws of strips.
use Rattle.std.specs.Prelude.{◌≡◌, List, ℤ, pos, ◌*ℤ◌, ◌↔◌, All, Contains}
use Rattle.plane.specs.Plane.{PlanePoint, Bounds, IsTight, times}
use Rattle.strips.specs.declared.Strip.{Strip}
use Rattle.strips.specs.Strips.{HasInside, IsStout, IsCrossing, IsPlate, AreStrips, AreCovering}
use Rattle.strips.specs.Inner.Sweep.{AreCutRows, AreSheetStrips}

-- p has whole coordinates
pub record IsWholePoint (p : PlanePoint) : Type 0 where
  pub x : (u : ℤ) × (p.x ≡ pos p.scale *ℤ u)
  pub y : (v : ℤ) × (p.y ≡ pos p.scale *ℤ v)

-- the crossings of octagons of the grid are at whole nanometres
abbrev pub WholeCrossingLaw : Type 0
WholeCrossingLaw = (a b : Bounds) (p : PlanePoint) → IsCrossing (times 2 a) (times 2 b) p → IsWholePoint p

-- a sweep over the rows that cut, from the top, gives the strips, and they cover exactly the union
abbrev pub SweepLaw : Type 0
SweepLaw =
    (os : List Bounds) (rs : List ℤ) (ss : List Strip) → All (λ b. IsPlate b) os → AreCutRows os rs → AreSheetStrips os rs ss
    → AreStrips os ss × AreCovering os ss

-- neither the order of the octagons nor an octagon that stands twice matters
abbrev pub SameOctsLaw : Type 0
SameOctsLaw =
    (os qs : List Bounds) (ss : List Strip) → ((b : Bounds) → Contains os b ↔ Contains qs b) → AreStrips os ss
    → AreStrips qs ss × (AreCovering os ss → AreCovering qs ss)

-- a tight octagon has points strictly inside exactly where no two opposite sides lie on each other
abbrev pub InsideLaw : Type 0
InsideLaw = (b : Bounds) → IsTight b → HasInside b ↔ IsStout b

-- octagons have one list of strips
abbrev pub OnceLaw : Type 0
OnceLaw = (os : List Bounds) (ss ts : List Strip) → AreStrips os ss → AreStrips os ts → ss ≡ ts
