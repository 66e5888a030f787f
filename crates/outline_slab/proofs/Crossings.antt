-- When two edges of a chain cross, by what the code tests.
use Rattle.std.proofs.Common.{◌≡◌, sym, ◌∙◌, ap, subst, ℕ, ◌<◌, ◌≤◌, inl, inr, arith, List, length, get_or, Bool}
use Rattle.std.specs.Prelude.{◌-ℤ◌, ◌↔◌, IsTrue}
use Rattle.std.specs.List.{All}
use Rattle.plane.specs.Plane.{PlanePoint, Bounds, In, IsMeeting}
use Rattle.grid_num.specs.declared.Point.{Point}
use Rattle.plane.specs.Covering.{Edge, IsOn, edges_of}
use Rattle.plane.specs.Edges.{IsOctilinear}
use Rattle.outline_slab.specs.Rules.{IsSide, IsNextAround, AreCrossing, edge, no_edge, no_corner}
use Rattle.outline_slab.specs.Inner.Side.{IsSameSign}
use Rattle.outline_slab.proofs.Chain.{edges_length, edge_start, edge_next, edge_last}
use Rattle.outline_slab.proofs.Folds.{way, IsFolded, IsShared, shared_folded, folded_shared}

pub side_of : (cs : List Point) (i : ℕ) → All IsSide (edges_of cs) → i < length cs → IsSide (edge cs i)
side_of cs i all h = all i no_edge (let l = edges_length cs in omega arith)

-- ---- edges that are no neighbours: their hulls meet
pub far_law : (cs : List Point) (i j : ℕ) (b c : Bounds) → (IsNextAround (length cs) i j → ⊥) → (IsNextAround (length cs) j i → ⊥)
    → ((p : PlanePoint) → In b p ↔ IsOn (edge cs i) p) → ((p : PlanePoint) → In c p ↔ IsOn (edge cs j) p) → IsMeeting b c ↔ AreCrossing cs i j
unfolding IsMeeting
far_law cs i j b c m n f g = (
  λ (p, x, y). record { at = p; first = (f p).0 x; second = (g p).0 y; not_end = λ h. m h.next; not_start = λ h. n h.next },
  λ t. (t.at, (f t.at).1 t.first, (g t.at).1 t.second),
)

-- ---- neighbours: the second goes back along the first
-- the end of an edge is the start of the next one
pub joined : (cs : List Point) (i j : ℕ) → i < length cs → j < length cs → IsNextAround (length cs) i j → (edge cs i).finish ≡ (edge cs j).start
joined cs i j h g (inl e) = edge_next cs i no_corner (omega arith) ∙ sym (edge_start cs j no_corner g ∙ ap (λ (k : ℕ). get_or cs k no_corner) (omega arith))
joined cs i j h g (inr e) = edge_last cs i no_corner (omega arith) ∙ sym (edge_start cs j no_corner g ∙ ap (λ (k : ℕ). get_or cs k no_corner) e.1)

-- with three edges and more, j follows i or i follows j, not both
once : (n i j : ℕ) → 3 ≤ n → IsNextAround n i j → IsNextAround n j i → ⊥
once n i j h a b = omega arith

to_way : (cs : List Point) (i j : ℕ) → (edge cs i).finish ≡ (edge cs j).start → edge cs i ≡ way (edge cs i).start (edge cs j).start
to_way cs i j e = let f : Point → Edge = λ z. record { start = (edge cs i).start; finish = z } in ap f e

pub near_law : (cs : List Point) (i j : ℕ) → 3 ≤ length cs → i < length cs → j < length cs → IsNextAround (length cs) i j → IsSide (edge cs i) → IsSide (edge cs j)
    → IsFolded (edge cs i).start (edge cs j).start (edge cs j).finish ↔ AreCrossing cs i j
near_law cs i j three h g n s t = (
  λ f. out (folded_shared a b c u t f),
  λ x. shared_folded a b c u t (record { at = x.at; first = subst (λ (e : Edge). IsOn e x.at) w x.first; second = x.second; not_end = λ q. x.not_end (record { next = n; end = q }) }),
)
  where
    a : Point
    a = (edge cs i).start

    b : Point
    b = (edge cs j).start

    c : Point
    c = (edge cs j).finish

    w : edge cs i ≡ way (edge cs i).start (edge cs j).start
    w = to_way cs i j (joined cs i j h g n)

    u : IsSide (way (edge cs i).start (edge cs j).start)
    u = subst IsSide w s

    out : IsShared (edge cs i).start (edge cs j).start (edge cs j).finish → AreCrossing cs i j
    out q = record {
      at = q.at;
      first = subst (λ (e : Edge). IsOn e q.at) (sym w) q.first;
      second = q.second;
      not_end = λ z. q.not_end z.end;
      not_start = λ z. once (length cs) i j three n z.next;
    }

pub turned_crossing : (cs : List Point) (i j : ℕ) → AreCrossing cs i j → AreCrossing cs j i
turned_crossing cs i j c = record { at = c.at; first = c.second; second = c.first; not_end = c.not_start; not_start = c.not_end }

-- ---- what the code tests
pub side_octilinear : (cs : List Point) (i : ℕ) (s : Edge) → All IsSide (edges_of cs) → i < length cs → s ≡ edge cs i → IsOctilinear s
side_octilinear cs i s all h e = subst IsOctilinear (sym e) (side_of cs i all h).octilinear

pub near_test : (cs : List Point) (i j : ℕ) (s t : Edge) (r : Bool) → s ≡ edge cs i → t ≡ edge cs j
    → 3 ≤ length cs → i < length cs → j < length cs → IsNextAround (length cs) i j → All IsSide (edges_of cs)
    → IsTrue r ↔ (IsSameSign (s.start.x -ℤ s.finish.x) (t.finish.x -ℤ t.start.x) × IsSameSign (s.start.y -ℤ s.finish.y) (t.finish.y -ℤ t.start.y))
    → IsTrue r ↔ AreCrossing cs i j
near_test cs i j s t r d e three h g n all test =
    let f : IsTrue r ↔ (IsSameSign ((edge cs i).start.x -ℤ (edge cs i).finish.x) (t.finish.x -ℤ t.start.x) × IsSameSign ((edge cs i).start.y -ℤ (edge cs i).finish.y) (t.finish.y -ℤ t.start.y))
    = subst (λ (a : Edge). IsTrue r ↔ (IsSameSign (a.start.x -ℤ a.finish.x) (t.finish.x -ℤ t.start.x) × IsSameSign (a.start.y -ℤ a.finish.y) (t.finish.y -ℤ t.start.y))) d test in
    let k : IsTrue r ↔ (IsSameSign ((edge cs i).start.x -ℤ (edge cs i).finish.x) ((edge cs j).finish.x -ℤ (edge cs j).start.x) × IsSameSign ((edge cs i).start.y -ℤ (edge cs i).finish.y) ((edge cs j).finish.y -ℤ (edge cs j).start.y))
    = subst (λ (b : Edge). IsTrue r ↔ (IsSameSign ((edge cs i).start.x -ℤ (edge cs i).finish.x) (b.finish.x -ℤ b.start.x) × IsSameSign ((edge cs i).start.y -ℤ (edge cs i).finish.y) (b.finish.y -ℤ b.start.y))) e f in
    let m : IsTrue r ↔ IsFolded (edge cs i).start (edge cs j).start (edge cs j).finish
    = subst (λ (z : Point). IsTrue r ↔ (IsSameSign ((edge cs i).start.x -ℤ z.x) ((edge cs j).finish.x -ℤ (edge cs j).start.x) × IsSameSign ((edge cs i).start.y -ℤ z.y) ((edge cs j).finish.y -ℤ (edge cs j).start.y))) (joined cs i j h g n) k in
    let q = near_law cs i j three h g n (side_of cs i all h) (side_of cs j all g) in
    (λ z. q.0 (m.0 z), λ c. m.1 (q.1 c))

pub far_test : (cs : List Point) (i j : ℕ) (s t : Edge) (b c : Bounds) (r : Bool) → s ≡ edge cs i → t ≡ edge cs j
    → (IsNextAround (length cs) i j → ⊥) → (IsNextAround (length cs) j i → ⊥)
    → ((p : PlanePoint) → In b p ↔ IsOn s p) → ((p : PlanePoint) → In c p ↔ IsOn t p) → IsTrue r ↔ IsMeeting b c → IsTrue r ↔ AreCrossing cs i j
far_test cs i j s t b c r d e m n f g test =
    let q = far_law cs i j b c m n
    (subst (λ (a : Edge). (p : PlanePoint) → In b p ↔ IsOn a p) d f) (subst (λ (a : Edge). (p : PlanePoint) → In c p ↔ IsOn a p) e g) in
    (λ z. q.0 (test.0 z), λ x. test.1 (q.1 x))

pub turned_test : (cs : List Point) (i j : ℕ) (r : Bool) → IsTrue r ↔ AreCrossing cs i j → IsTrue r ↔ AreCrossing cs j i
turned_test cs i j r h = (λ z. turned_crossing cs i j (h.0 z), λ c. h.1 (turned_crossing cs j i c))
