-- Strips that cover octagons, whichever rows they are cut at.
use Rattle.std.specs.Prelude.{◌≡◌, List, pos}
use Rattle.std.specs.List.{All}
use Rattle.plane.specs.Plane.{Bounds, IsOct}
use Rattle.strips.specs.declared.Strip.{Strip}
use Rattle.strips.specs.Strips.{HasInside, AreStrips, AreCovering, in_nanometres}
use Rattle.strips.specs.Area.{area2_of}
use Rattle.rings.specs.Rings.{Traced}
use Rattle.rings.specs.Sheets.{AreRings}
use Rattle.rings.specs.Outlines.{AreOutlines}
use Rattle.rings.specs.Laws.{AreOrderly}
use Rattle.same_points.specs.Laws.{AreDrawnAlike}

-- the strips, in nanometres, are in order and cover exactly the union of the octagons, in units
pub record IsSheetOf (octs : List Bounds) (ss : List Strip) : Type 0 where
  pub order : AreOrderly ss
  pub cover : AreCovering (in_nanometres octs) ss

-- octagons that aren't flat have strips
abbrev pub SomeStripsLaw : Type 0
SomeStripsLaw =
    (octs : List Bounds) → All IsOct octs → All (λ b. HasInside b) octs
    → (ss : List Strip) × AreStrips (in_nanometres octs) ss

-- and whichever strips cover them are drawn as these
abbrev pub AnyStripsLaw : Type 0
AnyStripsLaw =
    (octs : List Bounds) (ss ts : List Strip) → All IsOct octs → All (λ b. HasInside b) octs
    → AreStrips (in_nanometres octs) ss → IsSheetOf octs ts → AreDrawnAlike ss ts

-- so their rings and twice their area are the outlines of the octagons
abbrev pub AnyOutlinesLaw : Type 0
AnyOutlinesLaw =
    (octs : List Bounds) (ts : List Strip) (traced : Traced) → All IsOct octs → All (λ b. HasInside b) octs → IsSheetOf octs ts
    → AreRings ts traced.rings → pos traced.area2 ≡ area2_of ts → AreOutlines octs traced
