-- The laws of covering.
use Rattle.std.specs.Prelude.{◌≡◌, ◌+◌, ◌%◌, List, ◌∷◌, ◌++◌, ℤ, ◌≤ℤ◌, ◌↔◌, sum_by, Any, map}
use Rattle.std.specs.List.{All}
use Rattle.std.specs.List.Sorted.{IsPermutation}
use Rattle.plane.specs.Plane.{PlanePoint, Bounds, In, StrictlyIn, IsTight, box_of}
use Rattle.grid_num.specs.declared.Point.{Point}
use Rattle.plane.specs.Covering.{Edge, IsOn, crossing, crossings, Covers, StrictlyCovers, CoversSome, edges_of}
use Rattle.plane.specs.Corners.{corners_of, without_repeats, box_corners}
use Rattle.plane.specs.Edges.{turned_back, both_ways, IsStraight, AreOctilinear}
use Rattle.plane.specs.Ends.{crossing_below}

-- the corners of a tight octagon cover exactly its points
abbrev pub CornersLaw : Type 0
CornersLaw = (b : Bounds) (p : PlanePoint) → IsTight b → Covers (edges_of (corners_of b)) p ↔ In b p

-- and strictly cover those strictly in it
abbrev pub StrictCornersLaw : Type 0
StrictCornersLaw = (b : Bounds) (p : PlanePoint) → IsTight b → StrictlyCovers (edges_of (corners_of b)) p ↔ StrictlyIn b p

-- a closed chain covers the same without its repeats
abbrev pub RepeatsLaw : Type 0
RepeatsLaw = (cs : List Point) (p : PlanePoint) → Covers (edges_of (without_repeats cs)) p ↔ Covers (edges_of cs) p

-- and strictly covers the same
abbrev pub StrictRepeatsLaw : Type 0
StrictRepeatsLaw = (cs : List Point) (p : PlanePoint) → StrictlyCovers (edges_of (without_repeats cs)) p ↔ StrictlyCovers (edges_of cs) p

-- so the ring of a tight octagon, its corners without repeats, covers exactly its points
abbrev pub ExactCoverLaw : Type 0
ExactCoverLaw = (b : Bounds) (p : PlanePoint) → IsTight b → Covers (edges_of (without_repeats (corners_of b))) p ↔ In b p

-- and strictly covers those strictly in it
abbrev pub StrictExactCoverLaw : Type 0
StrictExactCoverLaw = (b : Bounds) (p : PlanePoint) → IsTight b → StrictlyCovers (edges_of (without_repeats (corners_of b))) p ↔ StrictlyIn b p

-- the four corners of a rectangle cover exactly its points
abbrev pub BoxCoverLaw : Type 0
BoxCoverLaw =
    (x0 x1 y0 y1 : ℤ) (p : PlanePoint) → x0 ≤ℤ x1 → y0 ≤ℤ y1 → Covers (edges_of (box_corners x0 x1 y0 y1)) p ↔ In (box_of x0 x1 y0 y1) p

-- and strictly cover those strictly in it
abbrev pub StrictBoxCoverLaw : Type 0
StrictBoxCoverLaw =
    (x0 x1 y0 y1 : ℤ) (p : PlanePoint) → x0 ≤ℤ x1 → y0 ≤ℤ y1
    → StrictlyCovers (edges_of (box_corners x0 x1 y0 y1)) p ↔ StrictlyIn (box_of x0 x1 y0 y1) p

-- the rings of tight octagons, each for itself, cover exactly the points that are in one of the octagons
abbrev pub SomeCoverLaw : Type 0
SomeCoverLaw =
    (bs : List Bounds) (p : PlanePoint) → All IsTight bs
    → CoversSome (map (λ b. without_repeats (corners_of b)) bs) p ↔ Any (λ b. In b p) bs

-- the counts of two lists of edges add up
abbrev pub CountsLaw : Type 0
CountsLaw = (es fs : List Edge) (p : PlanePoint) → crossings (es ++ fs) p ≡ crossings es p + crossings fs p

-- an edge counts the same the other way
abbrev pub TurnedLaw : Type 0
TurnedLaw = (e : Edge) (p : PlanePoint) → crossing p (turned_back e) ≡ crossing p e

-- the order of edges, and so that of chains, doesn't matter
abbrev pub OrderLaw : Type 0
OrderLaw = (es fs : List Edge) (p : PlanePoint) → IsPermutation es fs → Covers es p ↔ Covers fs p

-- edges that are gone both ways don't matter where their points are covered anyway
abbrev pub SlitsLaw : Type 0
SlitsLaw =
    (es slits : List Edge) (p : PlanePoint) → (Any (λ e. IsOn e p) (both_ways slits) → Covers es p)
    → Covers (es ++ both_ways slits) p ↔ Covers es p

-- an edge that is cut at a point of it covers as its two parts do
abbrev pub SplitLaw : Type 0
SplitLaw =
    (a b c : Point) (es : List Edge) (p : PlanePoint) → IsStraight a b c
    → Covers (record { start = a; finish = c } ∷ es) p ↔ Covers (record { start = a; finish = b } ∷ record { start = b; finish = c } ∷ es) p

-- off the edges of a closed chain the number of crossings is odd or even alike, whichever end of an edge counts
abbrev pub EndsLaw : Type 0
EndsLaw =
    (cs : List Point) (p : PlanePoint) → AreOctilinear (edges_of cs) → (Any (λ e. IsOn e p) (edges_of cs) → ⊥)
    → (sum_by (crossing p) (edges_of cs) + sum_by (crossing_below p) (edges_of cs)) % 2 ≡ 0
