-- The laws of the loops and rings of any sheet.
use Rattle.std.specs.Prelude.{◌≡◌, ◌↔◌, List, Any, map}
use Rattle.plane.specs.Plane.{PlanePoint, Bounds, In}
use Rattle.grid_num.specs.declared.Point.{Point}
use Rattle.plane.specs.Covering.{Covers, edges_of_all}
use Rattle.strips.specs.declared.Strip.{Strip}
use Rattle.strips.specs.Strips.{IsInStrip, AreCovering}
use Rattle.rings.specs.Loops.{Loop}
use Rattle.rings.specs.Sheets.{AreLoops, AreRings}
use Rattle.sheet_union.specs.Near.{IsSheet}

-- just one list of loops is right for a sheet, and just one list of rings
abbrev pub OneSheetLoopsLaw : Type 0
OneSheetLoopsLaw = (ss : List Strip) (loops others : List Loop) → IsSheet ss → AreLoops ss loops → AreLoops ss others → loops ≡ others

-- and just one list of rings
abbrev pub OneSheetRingsLaw : Type 0
OneSheetRingsLaw = (ss : List Strip) (rings others : List (List Point)) → IsSheet ss → AreRings ss rings → AreRings ss others → rings ≡ others

-- the loops, counted together by the even-odd rule, cover exactly the sheet
abbrev pub SheetLoopsCoverLaw : Type 0
SheetLoopsCoverLaw =
    (ss : List Strip) (loops : List Loop) (p : PlanePoint) → IsSheet ss → AreLoops ss loops
    → Covers (edges_of_all (map (λ l. l.corners) loops)) p ↔ Any (λ s. IsInStrip s p) ss

-- and so do the rings
abbrev pub SheetRingsCoverLaw : Type 0
SheetRingsCoverLaw =
    (ss : List Strip) (rings : List (List Point)) (p : PlanePoint) → IsSheet ss → AreRings ss rings → Covers (edges_of_all rings) p ↔ Any (λ s. IsInStrip s p) ss

-- so where the sheet is the union of octagons, the rings cover exactly these
abbrev pub SheetUnionCoverLaw : Type 0
SheetUnionCoverLaw =
    (os : List Bounds) (ss : List Strip) (rings : List (List Point)) (p : PlanePoint) → IsSheet ss → AreCovering os ss → AreRings ss rings
    → Covers (edges_of_all rings) p ↔ Any (λ b. In b p) os
