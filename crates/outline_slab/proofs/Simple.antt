-- The edges of a simple chain close up and meet in rows alone.
use Rattle.std.proofs.Common.{◌≡◌, sym, ◌∙◌, ap, subst, ℕ, zero, suc, ◌<◌, ◌≤◌, inl, inr, arith, List, [], ◌∷◌, length, get_or}
use Rattle.std.specs.Prelude.{ℤ, pos, ◌*ℤ◌}
use Rattle.std.specs.List.{All}
use Rattle.std.proofs.lemmas.Bool.{cases_lt}
use Rattle.std.proofs.lemmas.Int.{ints}
use Rattle.std.proofs.lemmas.List.{length-map, get_or-map, get_or_default}
use Rattle.plane.specs.Plane.{PlanePoint}
use Rattle.plane.specs.Narrow.{IsNearZero}
use Rattle.grid_num.specs.declared.Point.{Point}
use Rattle.octagon.specs.Bounded.{IsInReach}
use Rattle.plane.specs.Covering.{Edge, IsOn, edges_of}
use Rattle.plane.specs.Edges.{IsOctilinear, AreOctilinear}
use Rattle.slabs.specs.Slabs.{IsAmong, IsOffRows, AreClosed, starts}
use Rattle.slabs.proofs.Closed.{chain_law}
use Rattle.slabs.proofs.Cutting.{one_is}
use Rattle.slabs.proofs.Order.{all_head, all_tail}
use Rattle.slabs.proofs.Outside.{ends_all}
use Rattle.outline_slab.specs.Rules.{IsSide, IsSimple, IsKeptOutline, IsPointWithin, IsInSpan, AreCrossing, NoneCrossing, edge, no_edge}
use Rattle.outline_slab.specs.Cuts.{IsSoundEdge}
use Rattle.outline_slab.proofs.Chain.{edges_length}

all_octilinear : (es : List Edge) → All IsSide es → AreOctilinear es
unfolding AreOctilinear
all_octilinear [] all = tt
all_octilinear (e ∷ es) all = ((all_head IsSide e es all).octilinear, all_octilinear es (all_tail IsSide e es all))

one_octilinear : (es : List Edge) → AreOctilinear es → All IsOctilinear es
unfolding AreOctilinear
one_octilinear [] all = λ k d h. absurd (omega (arith, h))
one_octilinear (e ∷ es) all = at (one_octilinear es all.1)
  where
    at : All IsOctilinear es → (k : ℕ) (d : Edge) → k < length (e ∷ es) → IsOctilinear (get_or (e ∷ es) k d)
    at rest zero d h = all.0
    at rest (suc k) d h = rest k d (omega (arith, h))

-- the row where an edge starts
start_row : (es : List Edge) (i : ℕ) → i < length es → IsAmong (starts es) (get_or es i no_edge).start.y
start_row es i h =
    let n = length-map es (λ (e : Edge). e.start.y) in
    let e = get_or-map (λ (e : Edge). e.start.y) es i no_edge (get_or es i no_edge).start.y h in
    rw (sym e) (one_is (starts es) i (get_or es i no_edge).start.y (omega (arith, h, n)))

-- a point between the rows is no corner
off_corner : (es : List Edge) (p : PlanePoint) (i : ℕ) → IsOffRows (starts es) p → i < length es → pos p.scale *ℤ (get_or es i no_edge).start.y ≡ pos 1 *ℤ p.y → ⊥
off_corner es p i off h e = off (get_or es i no_edge).start.y (start_row es i h) (omega (arith, ints, e))

-- two edges with a common point between the rows cross
crossing_pair : (cs : List Point) (i j : ℕ) (p : PlanePoint) → i < length cs → j < length cs → IsOffRows (starts (edges_of cs)) p → IsOn (edge cs i) p → IsOn (edge cs j) p → AreCrossing cs i j
crossing_pair cs i j p h g off x y =
    let n = edges_length cs in
    record {
      at = p;
      first = x;
      second = y;
      not_end = λ q. off_corner (edges_of cs) p j off (omega (arith, n, g)) q.end.y;
      not_start = λ q. off_corner (edges_of cs) p i off (omega (arith, n, h)) q.end.y;
    }

same_read : (es : List Edge) (e : Edge) (a : IsAmong es e) → (get_or es a.0 no_edge) ≡ e
same_read es e a = get_or_default es a.0 no_edge a.1 a.2 ∙ (a.3 ∙ a.4)

apart : (cs : List Point) → NoneCrossing cs → (e f : Edge) (p : PlanePoint) → IsAmong (edges_of cs) e → IsAmong (edges_of cs) f → IsOn e p → IsOn f p → IsOffRows (starts (edges_of cs)) p → e ≡ f
apart cs none e f p a b oe of off =
    let n = edges_length cs in
    let i = a.0 in
    let j = b.0 in
    let ha = a.2 in
    let hb = b.2 in
    let x : IsOn (edge cs i) p = subst (λ (g : Edge). IsOn g p) (sym (same_read (edges_of cs) e a)) oe in
    let y : IsOn (edge cs j) p = subst (λ (g : Edge). IsOn g p) (sym (same_read (edges_of cs) f b)) of in
    let hi : i < length cs = omega (arith, n, ha) in
    let hj : j < length cs = omega (arith, n, hb) in
    elim (cases_lt i j) [
      | inl l ↦ absurd (none i j l hj (crossing_pair cs i j p hi hj off x y))
      | inr l ↦ elim (cases_lt j i) [
        | inl m ↦ absurd (none j i m hi (crossing_pair cs j i p hj hi off y x))
        | inr m ↦
            (let same : i ≡ j = omega (arith, l, m) in
            sym (same_read (edges_of cs) e a) ∙ (ap (λ (k : ℕ). get_or (edges_of cs) k no_edge) same ∙ same_read (edges_of cs) f b))
      ]
    ]

pub closed_chain : (cs : List Point) → IsSimple cs → AreClosed (starts (edges_of cs)) (edges_of cs)
closed_chain cs s = chain_law (starts (edges_of cs)) cs (all_octilinear (edges_of cs) s.sides) (λ e f p a b oe of off. apart cs s.apart e f p a b oe of off)

-- ---- reach
near_more : (n m : ℕ) (z : ℤ) → n ≤ m → IsNearZero n z → IsNearZero m z
near_more n m z h a = record { low = omega (arith, ints, h, a.low); high = omega (arith, ints, h, a.high) }

reach_of : (p : Point) → IsPointWithin 250000000 p → IsInReach p
reach_of p w = record { x = near_more 250000000 _ p.x (omega arith) w.x; y = near_more 250000000 _ p.y (omega arith) w.y }

pub all_reached : (cs : List Point) → All (IsPointWithin 250000000) cs → All IsInReach cs
all_reached cs all = λ i d h. reach_of (get_or cs i d) (all i d h)

span_of : (p : Point) → IsPointWithin 250000000 p → IsInSpan p
span_of p w = record { x = near_more 250000000 _ p.x (omega arith) w.x; y = near_more 250000000 _ p.y (omega arith) w.y }

pub all_in_span : (cs : List Point) → All (IsPointWithin 250000000) cs → All IsInSpan cs
all_in_span cs all = λ i d h. span_of (get_or cs i d) (all i d h)

pub sound_chain : (cs : List Point) → IsKeptOutline cs → All IsSoundEdge (edges_of cs)
sound_chain cs k = λ i d h.
    let o = one_octilinear (edges_of cs) (all_octilinear (edges_of cs) k.simple.sides) i d h in
    let w = ends_all (IsPointWithin 250000000) cs k.within i d h in
    record { octilinear = o; reached = record { start = reach_of (get_or (edges_of cs) i d).start w.0; finish = reach_of (get_or (edges_of cs) i d).finish w.1 } }
