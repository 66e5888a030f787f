-- The laws of loops and rings. They hold of strips in order, whatever octagons they stand for, and for edges in any order.
use Rattle.std.specs.Prelude.{◌≡◌, ◌↔◌, List, length, Any, AllPairs, Contains, map}
use Rattle.std.specs.List.{All, AllZip}
use Rattle.std.specs.List.Sorted.{IsPermutation}
use Rattle.rings.specs.Walks.{IsWalk, joined_walks}
use Rattle.rings.specs.Inner.Tracing.{walks_of, drawings_of, loops_by, slits_by, rings_by}
use Rattle.plane.specs.Plane.{PlanePoint, Bounds, In}
use Rattle.grid_num.specs.declared.Point.{Point}
use Rattle.plane.specs.Covering.{Edge, Covers, edges_of_all}
use Rattle.strips.specs.declared.Strip.{Strip}
use Rattle.strips.specs.Strips.{IsInStrip, IsTrapezoid, IsStripBefore, AreCovering}
use Rattle.rings.specs.Turning.{IsNextEdge}
use Rattle.rings.specs.Loops.{Loop, AreLoopsOf}
use Rattle.rings.specs.Slits.{IsSlit, cut_by}
use Rattle.rings.specs.Rings.{holes_of, with_slits, AreRingsOf}
use Rattle.rings.specs.Boundary.{AreBoundary}
use Rattle.rings.specs.Sheets.{AreLoops, AreRings}

-- what the laws need of strips: trapezoids, by top and then from left to right, with gaps between those of the same two rows. The strips of
-- octagons are so, and those of any sheet.
pub record AreOrderly (ss : List Strip) : Type 0 where
  pub shapes : All (λ s. IsTrapezoid s) ss
  pub order : AllPairs IsStripBefore ss

-- just one list of loops is right
abbrev pub OneLoopsLaw : Type 0
OneLoopsLaw = (ss : List Strip) (loops others : List Loop) → AreOrderly ss → AreLoops ss loops → AreLoops ss others → loops ≡ others

-- just one list of rings is right
abbrev pub OneRingsLaw : Type 0
OneRingsLaw = (ss : List Strip) (rings others : List (List Point)) → AreOrderly ss → AreRings ss rings → AreRings ss others → rings ≡ others

-- the loops, counted together by the even-odd rule, cover exactly the sheet
abbrev pub LoopsCoverLaw : Type 0
LoopsCoverLaw =
    (ss : List Strip) (loops : List Loop) (p : PlanePoint) → AreOrderly ss → AreLoops ss loops
    → Covers (edges_of_all (map (λ l. l.corners) loops)) p ↔ Any (λ s. IsInStrip s p) ss

-- and so do the rings
abbrev pub RingsCoverLaw : Type 0
RingsCoverLaw =
    (ss : List Strip) (rings : List (List Point)) (p : PlanePoint) → AreOrderly ss → AreRings ss rings → Covers (edges_of_all rings) p ↔ Any (λ s. IsInStrip s p) ss

-- so where the strips cover the octagons, the rings do
abbrev pub UnionCoverLaw : Type 0
UnionCoverLaw =
    (os : List Bounds) (ss : List Strip) (rings : List (List Point)) (p : PlanePoint) → AreOrderly ss → AreCovering os ss → AreRings ss rings
    → Covers (edges_of_all rings) p ↔ Any (λ b. In b p) os

-- every sheet has loops
abbrev pub SomeLoopsLaw : Type 0
SomeLoopsLaw = (ss : List Strip) → AreOrderly ss → (loops : List Loop) × AreLoops ss loops

-- and rings
abbrev pub SomeRingsLaw : Type 0
SomeRingsLaw = (ss : List Strip) → AreOrderly ss → (rings : List (List Point)) × AreRings ss rings

-- each of the edges has just one next edge, and is the next edge of no two
pub record HasOneNextEach (es : List Edge) : Type 0 where
  pub some : (e : Edge) → Contains es e → (f : Edge) × IsNextEdge es e f
  pub one : (e f g : Edge) → IsNextEdge es e f → IsNextEdge es e g → f ≡ g
  pub apart : (e g f : Edge) → Contains es e → Contains es g → IsNextEdge es e f → IsNextEdge es g f → e ≡ g
  pub once : AllPairs (λ e f. e ≡ f → ⊥) es

-- so it is with the boundary edges of a sheet, in any order
abbrev pub NextLaw : Type 0
NextLaw = (ss : List Strip) (es fs : List Edge) → AreOrderly ss → AreBoundary ss es → IsPermutation es fs → HasOneNextEach fs

-- and with the slits of its holes
abbrev pub SlitsNextLaw : Type 0
SlitsNextLaw =
    (ss : List Strip) (es : List Edge) (loops : List Loop) (slits gs : List Edge) → AreOrderly ss → AreBoundary ss es → AreLoopsOf es loops
    → AllZip (IsSlit es) (holes_of loops) slits → IsPermutation (with_slits es slits) gs → HasOneNextEach gs

-- these end at corners, so that no edge is cut
abbrev pub UncutLaw : Type 0
UncutLaw =
    (ss : List Strip) (es : List Edge) (loops : List Loop) (slits : List Edge) → AreOrderly ss → AreBoundary ss es → AreLoopsOf es loops
    → AllZip (IsSlit es) (holes_of loops) slits → cut_by slits es ≡ es

-- each hole has a slit
abbrev pub SomeSlitsLaw : Type 0
SomeSlitsLaw =
    (ss : List Strip) (es : List Edge) (loops : List Loop) → AreOrderly ss → AreBoundary ss es → AreLoopsOf es loops
    → (slits : List Edge) × AllZip (IsSlit es) (holes_of loops) slits

-- the plain program's walks are walks, and use each edge once: along the boundary, listed in any order
abbrev pub WalksLaw : Type 0
WalksLaw =
    (ss : List Strip) (es fs : List Edge) → AreOrderly ss → AreBoundary ss es → IsPermutation es fs
    → All (IsWalk fs) (walks_of (length fs) fs fs) × IsPermutation (joined_walks (walks_of (length fs) fs fs)) fs

-- and along the boundary and the slits
abbrev pub SlitsWalksLaw : Type 0
SlitsWalksLaw =
    (ss : List Strip) (es : List Edge) (loops : List Loop) (slits gs : List Edge) → AreOrderly ss → AreBoundary ss es → AreLoopsOf es loops
    → AllZip (IsSlit es) (holes_of loops) slits → IsPermutation (with_slits es slits) gs
    → All (IsWalk gs) (walks_of (length gs) gs gs) × IsPermutation (joined_walks (walks_of (length gs) gs gs)) gs

-- its loops are the right ones, from the edges in any order
abbrev pub LoopsByLaw : Type 0
LoopsByLaw = (ss : List Strip) (es fs : List Edge) → AreOrderly ss → AreBoundary ss es → IsPermutation es fs → AreLoopsOf es (loops_by fs)

-- so are its slits
abbrev pub SlitsByLaw : Type 0
SlitsByLaw =
    (ss : List Strip) (es fs : List Edge) (loops : List Loop) → AreOrderly ss → AreBoundary ss es → IsPermutation es fs → AreLoopsOf es loops
    → AllZip (IsSlit es) (holes_of loops) (slits_by fs (holes_of loops))

-- and the contours of its walks along the boundary and the slits, in any order, are the rings
abbrev pub DrawnRingsLaw : Type 0
DrawnRingsLaw =
    (ss : List Strip) (es : List Edge) (loops : List Loop) (slits gs : List Edge) → AreOrderly ss → AreBoundary ss es → AreLoopsOf es loops
    → AllZip (IsSlit es) (holes_of loops) slits → IsPermutation (with_slits es slits) gs → AreRingsOf es (map (λ d. d.corners) (drawings_of gs))

-- which it takes from the boundary's own order
abbrev pub RingsByLaw : Type 0
RingsByLaw = (ss : List Strip) (es : List Edge) → AreOrderly ss → AreBoundary ss es → AreRingsOf es (rings_by es)
