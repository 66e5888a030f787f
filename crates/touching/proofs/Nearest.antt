-- Where two cores are nearest: they meet, or a corner of the one is close to a side of the other.
use Rattle.std.proofs.Common.{◌≡◌, refl, ℕ, ◌≤◌, ◌*◌, ◌-◌, ◌⊎◌, inl, inr, ⊎_elim, arith, ap, sym, subst}
use Rattle.std.specs.Prelude.{ℤ, pos, ◌+ℤ◌, ◌-ℤ◌, ◌*ℤ◌, ◌≤ℤ◌}
use Rattle.std.proofs.lemmas.Int.{ints}
use Rattle.touching.specs.Core.{Spot, Core, area, line, OnLine, InCore, IsWhole, IsReached, Touches}
use Rattle.touching.specs.Inner.Decision.{Side, start_of, end_of, IsPointClose, AreLinesClose}
use Rattle.touching.specs.Laws.{AreMeeting, HasSide, HasCorner, CornerReaches, CoreDistanceLaw}
use Rattle.touching.proofs.Short.{IsShort, square_is, as_short}
use Rattle.touching.proofs.Pairs.{Pair, touches_pair, pair_touches, InCore-same, pair_turned}
use Rattle.touching.proofs.Leave.{Leaves, leave}
use Rattle.touching.proofs.Sides.{start_in, end_in, side_in, on_side}
use Rattle.touching.proofs.PointToLine.{test_near}
use Rattle.touching.proofs.LineCrossing.{crosses_near, no_square}
use Rattle.touching.proofs.LineToLine.{lines_close, near_pair, place, place_on, whole}
use Rattle.touching.proofs.AreaToLine.{left_pair, once, start_on, end_on, same_pair}
use Rattle.plane.specs.Plane.{PlanePoint, Bounds, In, IsTight, grid_point, minus}
use Rattle.grid_num.proofs.Products.{mul_sub}

-- a corner of c is close to a side of d
pub record CornerNear (a : ℕ) (c d : Core) : Type 0 where
  pub corner : Spot
  pub from : Spot
  pub to : Spot
  pub is_corner : HasCorner c corner
  pub is_side : HasSide d from to
  pub close : IsPointClose a corner from to

unfoldable pub Nearest : ℕ → Core → Core → Type 0
Nearest a c d = AreMeeting c d ⊎ (CornerNear a c d ⊎ CornerNear a d c)

-- what is no step away is met
pair_meets : (c d : Core) → Pair 0 c d → AreMeeting c d
unfolding AreMeeting
pair_meets c d h =
    let z = no_square (h.p.x -ℤ h.q.x) (h.p.y -ℤ h.q.y) (omega (arith, ints, h.close, (square_is (h.p.x -ℤ h.q.x)).1, (square_is (h.p.y -ℤ h.q.y)).1)) in
    (h.p, h.first, InCore-same d h.q h.p (record { x = level h.p.scale h.q.scale h.p.x h.q.x h.same z.0; y = level h.p.scale h.q.scale h.p.y h.q.y h.same z.1 }) h.second)
  where
    level : (k j : ℕ) (x y : ℤ) → k ≡ j → x -ℤ y ≡ pos 0 → pos k *ℤ y ≡ pos j *ℤ x
    level k j x y e z = subst (λ (m : ℕ). pos k *ℤ y ≡ pos m *ℤ x) e (ap (λ (w : ℤ). pos k *ℤ w) same)
      where
        same : y ≡ x
        same = omega (arith, ints, z)

-- two lines
lines_nearest : (a : ℕ) (s t u v : Spot) → Pair a (line s t) (line u v) → Nearest a (line s t) (line u v)
unfolding Nearest AreLinesClose HasSide HasCorner
lines_nearest a s t u v h = by_cases (lines_close a s t u v h)
  where
    by_cases : AreLinesClose a s t u v → Nearest a (line s t) (line u v)
    by_cases (inl h) = inl (pair_meets (line s t) (line u v) (near_pair 0 s t u v (crosses_near 0 _ _ _ _ _ _ h)))
    by_cases (inr (inl (inl h))) = inr (inl (record { corner = s; from = u; to = v; is_corner = (t, inl (refl, refl)); is_side = (refl, refl); close = h }))
    by_cases (inr (inl (inr h))) = inr (inl (record { corner = t; from = u; to = v; is_corner = (s, inr (refl, refl)); is_side = (refl, refl); close = h }))
    by_cases (inr (inr (inl h))) = inr (inr (record { corner = u; from = s; to = t; is_corner = (v, inl (refl, refl)); is_side = (refl, refl); close = h }))
    by_cases (inr (inr (inr h))) = inr (inr (record { corner = v; from = s; to = t; is_corner = (u, inr (refl, refl)); is_side = (refl, refl); close = h }))

-- a side for its area
side_has : (b : Bounds) (k : Side) (s t : Spot) → HasSide (line (start_of b k) (end_of b k)) s t → HasSide (area b) s t
unfolding HasSide
side_has b k s t h = (k, h.0, h.1)

corner_has : (b : Bounds) (k : Side) (s : Spot) → HasCorner (line (start_of b k) (end_of b k)) s → HasCorner (area b) s
unfolding HasCorner
corner_has b k s (t, inl h) = (t, inl (side_has b k s t h))
corner_has b k s (t, inr h) = (t, inr (side_has b k t s h))

of_side : (a : ℕ) (b : Bounds) (k : Side) (d : Core) → IsTight b → Nearest a (line (start_of b k) (end_of b k)) d → Nearest a (area b) d
unfolding Nearest AreMeeting InCore
of_side a b k d t (inl h) = inl (h.0, side_in b k h.0 t h.1, h.2)
of_side a b k d t (inr (inl h)) = inr (inl (record {
  corner = h.corner;
  from = h.from;
  to = h.to;
  is_corner = corner_has b k h.corner h.is_corner;
  is_side = h.is_side;
  close = h.close;
}))
of_side a b k d t (inr (inr h)) = inr (inr (record {
  corner = h.corner;
  from = h.from;
  to = h.to;
  is_corner = h.is_corner;
  is_side = side_has b k h.from h.to h.is_side;
  close = h.close;
}))

nearest_turned : (a : ℕ) (c d : Core) → Nearest a c d → Nearest a d c
unfolding Nearest AreMeeting
nearest_turned a c d (inl h) = inl (h.0, h.2, h.1)
nearest_turned a c d (inr (inl h)) = inr (inr h)
nearest_turned a c d (inr (inr h)) = inr (inl h)

-- an area and what is known for lines
from_lines : (a : ℕ) (b : Bounds) (d : Core) → IsTight b → ((s t : Spot) → Pair a (line s t) d → Nearest a (line s t) d) → Pair a (area b) d → Nearest a (area b) d
unfolding Nearest AreMeeting InCore
from_lines a b d t known h =
    ⊎_elim {C = Nearest a (area b) d} (λ z. inl (pair_end z))
    (λ (l : Leaves b h.p h.q).
    let k = on_side b l.at l.inside l.on in
    of_side a b k.0 d t (known (start_of b k.0) (end_of b k.0) (left_pair a b d h l (line (start_of b k.0) (end_of b k.0)) k.1)))
    (leave b h.p h.q h.first)
  where
    pair_end : In b h.q → AreMeeting (area b) d
    pair_end z = (h.q, z, h.second)

pub nearest : (a : ℕ) (c d : Core) → IsWhole c → IsWhole d → Pair a c d → Nearest a c d
unfolding IsWhole
nearest a (line s t) (line u v) w z h = lines_nearest a s t u v h
nearest a (area b) (line u v) w z h = from_lines a b (line u v) w (λ s t g. lines_nearest a s t u v g) h
nearest a (line s t) (area c) w z h =
    nearest_turned a (area c) (line s t) (from_lines a c (line s t) z (λ u v g. lines_nearest a u v s t g) (pair_turned a (line s t) (area c) h))
nearest a (area b) (area c) w z h =
    from_lines a b (area c) w
    (λ s t g. nearest_turned a (area c) (line s t)
    (from_lines a c (line s t) z (λ u v f. lines_nearest a u v s t f) (pair_turned a (line s t) (area c) g))) h

-- a close corner and the point of the side that it reaches
reaching : (r : ℕ) (c d : Core) → CornerNear (r * r) c d → CornerReaches r c d
unfolding IsPointClose IsReached minus place
reaching r c d h =
    let n = test_near (r * r) _ _ _ _ h.close in
    record {
      corner = h.corner;
      from = h.from;
      to = h.to;
      at = place n.n n.j n.some h.from h.to;
      is_corner = h.is_corner;
      is_side = h.is_side;
      on = place_on n.n n.j n.some h.from h.to n.inside;
      reached = at_scale r n.n _ _
          (as_short (r * r) n.n _ _ _ _ (step n.n n.j h.corner.x h.from.x h.to.x n.inside) (step n.n n.j h.corner.y h.from.y h.to.y n.inside) n.close);
    }
  where
    step : (n j : ℕ) (p s t : ℤ) → j ≤ n → (pos n *ℤ p -ℤ pos 1 *ℤ (pos (n - j) *ℤ s +ℤ pos j *ℤ t)) ≡ (pos n *ℤ (p -ℤ s) -ℤ pos j *ℤ (t -ℤ s))
    step n j p s t h = omega (arith, ints, whole n j s t h, mul_sub n p s)

    at_scale : (r n : ℕ) (x y : ℤ) → IsShort (r * r) n x y → (x *ℤ x +ℤ y *ℤ y) ≤ℤ pos ((r * (1 * n)) * (r * (1 * n)))
    at_scale r n x y h = omega (arith, ints, h)

corner_in : (c : Core) (s : Spot) → IsWhole c → HasCorner c s → InCore c (grid_point s.x s.y)
unfolding IsWhole HasCorner HasSide InCore
corner_in (area b) s t (e, inl h) = subst (λ (z : Spot). In b (grid_point z.x z.y)) (sym h.1) (once b _ _ (start_in b h.0 t))
corner_in (area b) s t (e, inr h) = subst (λ (z : Spot). In b (grid_point z.x z.y)) (sym h.2) (once b _ _ (end_in b h.0 t))
corner_in (line u v) s t (e, inl h) = subst (λ (z : Spot). OnLine u v (grid_point z.x z.y)) (sym h.0) (start_on u v)
corner_in (line u v) s t (e, inr h) = subst (λ (z : Spot). OnLine u v (grid_point z.x z.y)) (sym h.1) (end_on u v)

side_core : (c : Core) (s t : Spot) (p : PlanePoint) → IsWhole c → HasSide c s t → OnLine s t p → InCore c p
unfolding IsWhole HasSide InCore
side_core (area b) s t p w h on = side_in b h.0 p w (subst (λ (z : Spot). OnLine (start_of b h.0) z p) h.2 (subst (λ (z : Spot). OnLine z t p) h.1 on))
side_core (line u v) s t p w h on = subst (λ (z : Spot). OnLine u z p) h.1 (subst (λ (z : Spot). OnLine z t p) h.0 on)

corner_touches : (r : ℕ) (c d : Core) → IsWhole c → IsWhole d → CornerReaches r c d → Touches r c d
unfolding Touches
corner_touches r c d w z h =
    (grid_point h.corner.x h.corner.y, h.at, corner_in c h.corner w h.is_corner, side_core d h.from h.to h.at z h.is_side h.on, h.reached)

meeting_touches : (r : ℕ) (c d : Core) → AreMeeting c d → Touches r c d
unfolding AreMeeting
meeting_touches r c d h = pair_touches r c d (same_pair (r * r) c d h.0 h.1 h.2)

turned_touches : (r : ℕ) (c d : Core) → Touches r d c → Touches r c d
turned_touches r c d h = pair_touches r c d (pair_turned (r * r) d c (touches_pair r d c h))

pub distance_law : CoreDistanceLaw
unfolding Nearest
distance_law r c d w z = (λ h. reach (nearest (r * r) c d w z (touches_pair r c d h)), back)
  where
    reach : Nearest (r * r) c d → AreMeeting c d ⊎ (CornerReaches r c d ⊎ CornerReaches r d c)
    reach (inl h) = inl h
    reach (inr (inl h)) = inr (inl (reaching r c d h))
    reach (inr (inr h)) = inr (inr (reaching r d c h))

    back : AreMeeting c d ⊎ (CornerReaches r c d ⊎ CornerReaches r d c) → Touches r c d
    back (inl h) = meeting_touches r c d h
    back (inr (inl h)) = corner_touches r c d w z h
    back (inr (inr h)) = turned_touches r c d (corner_touches r d c z w h)
