-- Edges cut one by one, from the top of each to its bottom.
use Rattle.std.specs.Prelude.{◌≡◌, ◌+◌, ◌⊎◌, ℤ, ◌≤ℤ◌, ◌<ℤ◌, ◌↔◌, List, [], ◌∷◌, ◌++◌, sum_by, Any}
use Rattle.std.specs.List.{All}
use Rattle.plane.specs.Plane.{PlanePoint, Bounds, Within, In}
use Rattle.grid_num.specs.declared.Point.{Point}
use Rattle.plane.specs.Covering.{Edge, IsOn, Between, crossing}
use Rattle.plane.specs.Edges.{turned_back, IsOctilinear}
use Rattle.plane.specs.Ends.{crossing_below}
use Rattle.slabs.specs.Slabs.{IsAmong, IsAt, IsInLine, IsCutOfEdge, AreCuts, IsWay, IsFramed, IsAmid}

-- c is the part of e from one row down to another
pub record IsSlabPart (rows : List ℤ) (e c : Edge) : Type 0 where
  pub down : c.start.y <ℤ c.finish.y
  pub line : IsInLine e c
  pub from : Between e.start.y e.finish.y c.start.y
  pub to : Between e.start.y e.finish.y c.finish.y
  pub top : IsAmong rows c.start.y
  pub bottom : IsAmong rows c.finish.y

-- no row lies between the two
abbrev pub AreNeighbourRows : List ℤ → ℤ → ℤ → Type 0
AreNeighbourRows rows t b = All (λ z. (z ≤ℤ t) ⊎ (b ≤ℤ z)) rows

-- ds has the edges of cs, and all cuts of e
pub record AreAdded (rows : List ℤ) (e : Edge) (cs ds : List Edge) : Type 0 where
  pub each : All (λ d. IsAmong cs d ⊎ IsCutOfEdge rows e d) ds
  pub count : (p : PlanePoint) → sum_by (crossing p) ds ≡ sum_by (crossing p) cs + crossing p e
  pub below : (p : PlanePoint) → sum_by (crossing_below p) ds ≡ sum_by (crossing_below p) cs + crossing_below p e
  pub kept : (p : PlanePoint) → Any (λ c. IsOn c p) cs → Any (λ c. IsOn c p) ds
  pub on : (p : PlanePoint) → IsOn e p → Any (λ c. IsOn c p) ds

-- .. all cuts of e but those of its lower part r
pub record IsRest (rows : List ℤ) (e : Edge) (cs ds : List Edge) (r : Edge) : Type 0 where
  pub part : IsSlabPart rows e r
  pub each : All (λ d. IsAmong cs d ⊎ IsCutOfEdge rows e d) ds
  pub count : (p : PlanePoint) → sum_by (crossing p) ds + crossing p r ≡ sum_by (crossing p) cs + crossing p e
  pub below : (p : PlanePoint) → sum_by (crossing_below p) ds + crossing_below p r ≡ sum_by (crossing_below p) cs + crossing_below p e
  pub kept : (p : PlanePoint) → Any (λ c. IsOn c p) cs → Any (λ c. IsOn c p) ds
  pub on : (p : PlanePoint) → IsOn e p → Any (λ c. IsOn c p) ds ⊎ IsOn r p

-- at first the rest is the whole edge
abbrev pub BeginLaw : Type 0
BeginLaw =
    (rows : List ℤ) (e : Edge) (cs : List Edge) → e.start.y <ℤ e.finish.y → IsOctilinear e → IsAmong rows e.start.y → IsAmong rows e.finish.y → IsRest rows e cs cs e

-- then the cut down to the next row is taken off
abbrev pub StepLaw : Type 0
StepLaw =
    (rows : List ℤ) (e r : Edge) (cs ds : List Edge) (m : Point) → IsRest rows e cs ds r → r.start.y <ℤ m.y → m.y <ℤ r.finish.y → IsAmong rows m.y
    → AreNeighbourRows rows r.start.y m.y → IsAt r 1 m.y m.x
    → IsRest rows e cs (ds ++ record { start = r.start; finish = m } ∷ []) (record { start = m; finish = r.finish })

-- and the last one is the rest
abbrev pub EndLaw : Type 0
EndLaw =
    (rows : List ℤ) (e r : Edge) (cs ds : List Edge) → IsRest rows e cs ds r → AreNeighbourRows rows r.start.y r.finish.y → AreAdded rows e cs (ds ++ r ∷ [])

-- the direction of an edge doesn't matter
abbrev pub TurnedCutsLaw : Type 0
TurnedCutsLaw = (rows : List ℤ) (e : Edge) (cs ds : List Edge) → IsOctilinear e → AreAdded rows (turned_back e) cs ds → AreAdded rows e cs ds

-- edge by edge, a level one has no cut
abbrev pub MoreCutsLaw : Type 0
MoreCutsLaw = (rows : List ℤ) (es cs ds : List Edge) (e : Edge) → AreCuts rows es cs → AreAdded rows e cs ds → AreCuts rows (es ++ e ∷ []) ds

-- and a level edge adds none
abbrev pub LevelCutsLaw : Type 0
LevelCutsLaw = (rows : List ℤ) (es cs : List Edge) (e : Edge) → AreCuts rows es cs → e.start.y ≡ e.finish.y → AreCuts rows (es ++ e ∷ []) cs

-- b is the least octagon round the four ends
pub record IsFourHull (l r : Edge) (b : Bounds) : Type 0 where
  pub upper_left : Within b l.start.x l.start.y
  pub upper_right : Within b r.start.x r.start.y
  pub lower_left : Within b l.finish.x l.finish.y
  pub lower_right : Within b r.finish.x r.finish.y
  pub least : (c : Bounds) (p : PlanePoint) → Within c l.start.x l.start.y → Within c r.start.x r.start.y → Within c l.finish.x l.finish.y → Within c r.finish.x r.finish.y
      → In b p → In c p

-- the octagon of two cuts of a slab has just the points from the one to the other
abbrev pub AmidLaw : Type 0
AmidLaw = (l r : Edge) (b : Bounds) (p : PlanePoint) → IsWay l → IsWay r → IsFramed l r → IsFourHull l r b → In b p ↔ IsAmid l r p
