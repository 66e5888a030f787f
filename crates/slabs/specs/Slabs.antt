-- Edges cut by rows. A row is a level line, named by its y; between two neighbouring rows lies a slab, and an edge with
-- both ends on rows passes a slab from top to bottom or has no point strictly inside it:
--
--   row  ____/________\______|____
--           /          \     |          slab, with three cuts
--   row  __/____________\____|____
use Rattle.std.specs.Prelude.{◌≡◌, ℕ, zero, suc, ◌%◌, ◌+◌, ◌<◌, ◌⊎◌, ℤ, pos, neg_ℤ, ◌+ℤ◌, ◌-ℤ◌, ◌*ℤ◌, ◌≤ℤ◌, ◌<ℤ◌, ◌↔◌, List, [], ◌∷◌, ◌++◌, length, sum_by, Any, slice_index_or, map}
use Rattle.std.specs.List.{All}
use Rattle.plane.specs.Plane.{PlanePoint}
use Rattle.grid_num.specs.declared.Point.{Point}
use Rattle.plane.specs.Covering.{Edge, IsOn, Between, crossing, Covers, edges_of}
use Rattle.plane.specs.Edges.{AreOctilinear}
use Rattle.plane.specs.Ends.{crossing_below}

-- one of the list
abbrev pub IsAmong : {X : Type 0} → List X → X → Type 0
IsAmong xs x = Any (λ y. y ≡ x) xs

-- at scale k the edge, which is upright or slanted by 45 degrees, passes row y at z
unfoldable pub IsAt : Edge → ℕ → ℤ → ℤ → Type 0
IsAt e k y z =
    ((e.finish.x ≡ e.start.x) × (z ≡ pos k *ℤ e.start.x))
    ⊎ (((e.finish.x -ℤ e.start.x ≡ e.finish.y -ℤ e.start.y) × (z ≡ pos k *ℤ e.start.x +ℤ (y -ℤ pos k *ℤ e.start.y)))
    ⊎ ((e.finish.x -ℤ e.start.x ≡ neg_ℤ (e.finish.y -ℤ e.start.y)) × (z ≡ pos k *ℤ e.start.x -ℤ (y -ℤ pos k *ℤ e.start.y))))

-- both ends of c lie on the straight line of e, which is upright or slanted by 45 degrees
unfoldable pub IsInLine : Edge → Edge → Type 0
IsInLine e c =
    ((e.start.x ≡ e.finish.x) × (c.start.x ≡ e.start.x) × (c.finish.x ≡ e.start.x))
    ⊎ (((e.finish.x -ℤ e.start.x ≡ e.finish.y -ℤ e.start.y) × (c.start.x -ℤ c.start.y ≡ e.start.x -ℤ e.start.y) × (c.finish.x -ℤ c.finish.y ≡ e.start.x -ℤ e.start.y))
    ⊎ ((e.finish.x -ℤ e.start.x ≡ neg_ℤ (e.finish.y -ℤ e.start.y)) × (c.start.x +ℤ c.start.y ≡ e.start.x +ℤ e.start.y) × (c.finish.x +ℤ c.finish.y ≡ e.start.x +ℤ e.start.y)))

-- c is the part of e from a row down to the next row
pub record IsCutOfEdge (rows : List ℤ) (e c : Edge) : Type 0 where
  pub down : c.start.y <ℤ c.finish.y
  pub line : IsInLine e c
  pub from : Between e.start.y e.finish.y c.start.y
  pub to : Between e.start.y e.finish.y c.finish.y
  pub top : IsAmong rows c.start.y
  pub bottom : IsAmong rows c.finish.y
  pub next : All (λ z. (z ≤ℤ c.start.y) ⊎ (c.finish.y ≤ℤ z)) rows

-- p lies on a level edge of the list
abbrev pub IsOnLevel : List Edge → PlanePoint → Type 0
IsOnLevel es p = Any (λ e. (e.start.y ≡ e.finish.y) × IsOn e p) es

-- the list of all cuts of the edges, in any order
pub record AreCuts (rows : List ℤ) (es cs : List Edge) : Type 0 where
  pub each : All (λ c. (e : Edge) × IsAmong es e × IsCutOfEdge rows e c) cs
  pub count : (p : PlanePoint) → sum_by (crossing p) cs ≡ sum_by (crossing p) es
  pub below : (p : PlanePoint) → sum_by (crossing_below p) cs ≡ sum_by (crossing_below p) es
  pub on : (p : PlanePoint) → Any (λ e. IsOn e p) es → Any (λ c. IsOn c p) cs ⊎ IsOnLevel es p

-- the point is in none of the rows
abbrev pub IsOffRows : List ℤ → PlanePoint → Type 0
IsOffRows rows p = (z : ℤ) → IsAmong rows z → p.y ≡ pos p.scale *ℤ z → ⊥

-- both ends have a lesser x than p
pub record IsLeftOf (p : PlanePoint) (e : Edge) : Type 0 where
  pub start : (pos p.scale *ℤ e.start.x) <ℤ p.x
  pub finish : (pos p.scale *ℤ e.finish.x) <ℤ p.x

-- edges that close up and meet in rows alone
pub record AreClosed (rows : List ℤ) (es : List Edge) : Type 0 where
  pub octilinear : AreOctilinear es
  -- edges with a common point between the rows are the same
  pub apart : (e f : Edge) (p : PlanePoint) → IsAmong es e → IsAmong es f → IsOn e p → IsOn f p → IsOffRows rows p → e ≡ f
  -- a row is crossed an even number of times to the left of a point that is right of all edges
  pub even : (p : PlanePoint) → All (IsLeftOf p) es → sum_by (crossing p) es % 2 ≡ 0
  -- off the edges it doesn't matter for the parity which end of an edge counts
  pub ends : (p : PlanePoint) → (Any (λ e. IsOn e p) es → ⊥) → (sum_by (crossing p) es + sum_by (crossing_below p) es) % 2 ≡ 0

-- c comes before d: from the top, and within a slab from the left, by the sum of the two ends' x
unfoldable pub IsCutBefore : Edge → Edge → Type 0
IsCutBefore c d =
    (c.start.y <ℤ d.start.y) ⊎ ((c.start.y ≡ d.start.y) × ((c.start.x +ℤ c.finish.x) ≤ℤ (d.start.x +ℤ d.finish.x)))

-- the rows of all edges' starts; a closed chain has no corner in another row
abbrev pub starts : List Edge → List ℤ
starts es = map (λ e. e.start.y) es

-- each comes before the next one
abbrev pub AreCutsInOrder : List Edge → Type 0
AreCutsInOrder cs = (k : ℕ) (d : Edge) → k + 1 < length cs → IsCutBefore (slice_index_or cs k d) (slice_index_or cs (k + 1) d)

-- p is in the slab of l and r, from the one to the other
pub record IsAmid (l r : Edge) (p : PlanePoint) : Type 0 where
  pub top : (pos p.scale *ℤ l.start.y) ≤ℤ p.y
  pub bottom : p.y ≤ℤ (pos p.scale *ℤ l.finish.y)
  pub left : (z : ℤ) × IsAt l p.scale p.y z × (z ≤ℤ p.x)
  pub right : (z : ℤ) × IsAt r p.scale p.y z × (p.x ≤ℤ z)

-- pair j of the list has the two elements l and r
unfoldable pub IsPairAt : List Edge → ℕ → Edge → Edge → Type 0
IsPairAt [] j l r = ⊥
IsPairAt (c ∷ []) j l r = ⊥
IsPairAt (c ∷ d ∷ cs) zero l r = (c ≡ l) × (d ≡ r)
IsPairAt (c ∷ d ∷ cs) (suc j) l r = IsPairAt cs j l r

-- p lies between the two of some pair: the first and second cut of a slab, the third and fourth, ..
abbrev pub IsInPair : List Edge → PlanePoint → Type 0
IsInPair cs p = (j : ℕ) × (l : Edge) × (r : Edge) × IsPairAt cs j l r × IsAmid l r p

-- closed edges cover what lies between the cuts of pairs, and their level edges
abbrev pub SlabsLaw : Type 0
SlabsLaw =
    (rows : List ℤ) (es cs : List Edge) (p : PlanePoint) → AreClosed rows es → AreCuts rows es cs → AreCutsInOrder cs
    → Covers es p ↔ (IsInPair cs p ⊎ IsOnLevel es p)

-- upright or slanted by 45 degrees
abbrev pub IsSteep : Edge → Type 0
IsSteep c = (c.finish.x ≡ c.start.x) ⊎ ((c.finish.x -ℤ c.start.x ≡ c.finish.y -ℤ c.start.y) ⊎ (c.finish.x -ℤ c.start.x ≡ neg_ℤ (c.finish.y -ℤ c.start.y)))

-- .. and gone down
pub record IsWay (c : Edge) : Type 0 where
  pub down : c.start.y <ℤ c.finish.y
  pub steep : IsSteep c

-- l is nowhere right of r, in the same slab
pub record IsFramed (l r : Edge) : Type 0 where
  pub top : l.start.y ≡ r.start.y
  pub bottom : l.finish.y ≡ r.finish.y
  pub upper : l.start.x ≤ℤ r.start.x
  pub lower : l.finish.x ≤ℤ r.finish.x

-- the cuts of a pair are so
abbrev pub PairsLaw : Type 0
PairsLaw =
    (rows : List ℤ) (es cs : List Edge) (j : ℕ) (l r : Edge) → AreClosed rows es → AreCuts rows es cs → AreCutsInOrder cs
    → IsPairAt cs j l r → IsWay l × IsWay r × IsFramed l r

-- closed edges meet in more rows alone, too
abbrev pub MoreRowsLaw : Type 0
MoreRowsLaw = (rows more : List ℤ) (es : List Edge) → ((z : ℤ) → IsAmong rows z → IsAmong more z) → AreClosed rows es → AreClosed more es

-- closed edges of two lists that don't touch are closed together
abbrev pub ClosedTogetherLaw : Type 0
ClosedTogetherLaw =
    (rows : List ℤ) (es fs : List Edge) → AreClosed rows es → AreClosed rows fs
    → ((e f : Edge) (p : PlanePoint) → IsAmong es e → IsAmong fs f → IsOn e p → IsOn f p → ⊥) → AreClosed rows (es ++ fs)

-- a closed chain is closed, where its edges meet in rows alone
abbrev pub ChainLaw : Type 0
ChainLaw =
    (rows : List ℤ) (cs : List Point) → AreOctilinear (edges_of cs)
    → ((e f : Edge) (p : PlanePoint) → IsAmong (edges_of cs) e → IsAmong (edges_of cs) f → IsOn e p → IsOn f p → IsOffRows rows p → e ≡ f)
    → AreClosed rows (edges_of cs)
