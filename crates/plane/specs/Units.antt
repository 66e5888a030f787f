-- The same board in a smaller unit: every coordinate is k times as large (for k of 2, units of 2 nm become nanometres).
use Rattle.std.specs.Prelude.{◌≡◌, ℕ, ◌*◌, List, map, pos, ◌*ℤ◌, ◌↔◌}
use Rattle.plane.specs.Plane.{PlanePoint, Bounds, In, times}
use Rattle.grid_num.specs.declared.Point.{Point}
use Rattle.plane.specs.Covering.{Covers, StrictlyCovers, edges_of, edges_of_all}

-- the corner in the smaller unit
abbrev pub finer : ℕ → Point → Point
finer k a = record { x = pos k *ℤ a.x; y = pos k *ℤ a.y }

-- p, in the smaller unit, and q, in the larger one, are the same place
pub record IsSamePlace (k : ℕ) (p q : PlanePoint) : Type 0 where
  pub x : q.x ≡ p.x
  pub y : q.y ≡ p.y
  pub scale : q.scale ≡ p.scale * k

-- the finer octagon has the same places
abbrev pub FinerBoundsLaw : Type 0
FinerBoundsLaw = (k : ℕ) (b : Bounds) (p q : PlanePoint) → IsSamePlace k p q → In (times k b) p ↔ In b q

-- the finer chain covers the same places
abbrev pub FinerCoverLaw : Type 0
FinerCoverLaw =
    (k : ℕ) (cs : List Point) (p q : PlanePoint) → IsSamePlace k p q
    → Covers (edges_of (map (finer k) cs)) p ↔ Covers (edges_of cs) q

-- and strictly covers the same places
abbrev pub StrictFinerCoverLaw : Type 0
StrictFinerCoverLaw =
    (k : ℕ) (cs : List Point) (p q : PlanePoint) → IsSamePlace k p q
    → StrictlyCovers (edges_of (map (finer k) cs)) p ↔ StrictlyCovers (edges_of cs) q

-- and so do finer chains that are counted together
abbrev pub FinerCoverAllLaw : Type 0
FinerCoverAllLaw =
    (k : ℕ) (chains : List (List Point)) (p q : PlanePoint) → IsSamePlace k p q
    → Covers (edges_of_all (map (map (finer k)) chains)) p ↔ Covers (edges_of_all chains) q
