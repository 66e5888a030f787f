-- Points of two cores at a common scale.
use Rattle.std.proofs.Common.{◌≡◌, refl, ℕ, ◌≤◌, ◌+◌, ◌*◌, arith, ap, sym, subst, ◌∙◌}
use Rattle.std.specs.Prelude.{ℤ, pos, neg_ℤ, ◌+ℤ◌, ◌-ℤ◌, ◌*ℤ◌, ◌≤ℤ◌}
use Rattle.std.proofs.lemmas.Int.{ints}
use Rattle.touching.specs.Core.{Core, area, line, InCore, IsReached, Touches}
use Rattle.touching.proofs.Ring.{mul_cancel}
use Rattle.touching.proofs.Short.{IsShort, shrunk, as_short, turned_back}
use Rattle.plane.specs.Plane.{PlanePoint, IsSame, minus, positive_product}
use Rattle.grid_num.proofs.Products.{mul_sub}
use Rattle.plane.proofs.Points.{mul_mul, mul_swap, In-same}

-- a point of each, within reach of one another
pub record Pair (a : ℕ) (c d : Core) : Type 0 where
  pub p : PlanePoint
  pub q : PlanePoint
  pub same : p.scale ≡ q.scale
  pub first : InCore c p
  pub second : InCore d q
  pub close : IsShort a p.scale (p.x -ℤ q.x) (p.y -ℤ q.y)

on_line_same : (k j n : ℕ) (x y m : ℤ) → 1 ≤ k → pos j *ℤ x ≡ pos k *ℤ y → pos n *ℤ x ≡ pos k *ℤ m → pos n *ℤ y ≡ pos j *ℤ m
on_line_same k j n x y m one e h =
    mul_cancel k (pos n *ℤ y) (pos j *ℤ m) one
    (omega (arith, ints, mul_swap k n y, ap (λ (z : ℤ). pos n *ℤ z) e, mul_swap n j x, ap (λ (z : ℤ). pos j *ℤ z) h, mul_swap j k m))

-- the same point is in the same cores
pub InCore-same : (c : Core) (p q : PlanePoint) → IsSame p q → InCore c p → InCore c q
unfolding InCore
InCore-same (area b) p q e h = In-same b p q e h
InCore-same (line s t) p q e h = record {
  i = h.i;
  j = h.j;
  some = h.some;
  x = on_line_same p.scale q.scale (h.i + h.j) p.x q.x _ p.positive e.x h.x;
  y = on_line_same p.scale q.scale (h.i + h.j) p.y q.y _ p.positive e.y h.y;
}

-- from points at any scales
pub pair_of : (a : ℕ) (c d : Core) (p q : PlanePoint) → InCore c p → InCore d q
    → IsShort a (p.scale * q.scale) (pos q.scale *ℤ p.x -ℤ pos p.scale *ℤ q.x) (pos q.scale *ℤ p.y -ℤ pos p.scale *ℤ q.y) → Pair a c d
pair_of a c d p q h g s = record {
  p = record {
    x = pos q.scale *ℤ p.x;
    y = pos q.scale *ℤ p.y;
    scale = p.scale * q.scale;
    positive = positive_product p.scale q.scale p.positive q.positive;
  };
  q = record {
    x = pos p.scale *ℤ q.x;
    y = pos p.scale *ℤ q.y;
    scale = p.scale * q.scale;
    positive = positive_product p.scale q.scale p.positive q.positive;
  };
  same = refl;
  first = InCore-same c p _ (record { x = sym (mul_mul p.scale q.scale p.x); y = sym (mul_mul p.scale q.scale p.y) }) h;
  second = InCore-same d q _ (record { x = taken p.scale q.scale q.x; y = taken p.scale q.scale q.y }) g;
  close = s;
}
  where
    taken : (k j : ℕ) (x : ℤ) → pos (k * j) *ℤ x ≡ pos j *ℤ (pos k *ℤ x)
    taken k j x = sym (mul_mul k j x) ∙ mul_swap k j x

pub touches_pair : (r : ℕ) (c d : Core) → Touches r c d → Pair (r * r) c d
unfolding Touches IsReached minus
touches_pair r c d (p, q, h, g, s) = pair_of (r * r) c d p q h g (omega (arith, ints, s))

pub pair_touches : (r : ℕ) (c d : Core) → Pair (r * r) c d → Touches r c d
unfolding Touches IsReached minus
pair_touches r c d h = (h.p, h.q, h.first, h.second, reached h.p.scale h.q.scale h.p.x h.p.y h.q.x h.q.y h.same h.close)
  where
    reached : (k j : ℕ) (px py qx qy : ℤ) → k ≡ j → IsShort (r * r) k (px -ℤ qx) (py -ℤ qy)
        → ((pos j *ℤ px -ℤ pos k *ℤ qx) *ℤ (pos j *ℤ px -ℤ pos k *ℤ qx) +ℤ (pos j *ℤ py -ℤ pos k *ℤ qy) *ℤ (pos j *ℤ py -ℤ pos k *ℤ qy)) ≤ℤ pos ((r * (k * j)) * (r * (k * j)))
    reached k j px py qx qy e h = rw (← e) (at_one k px py qx qy h)
      where
        at_one : (k : ℕ) (px py qx qy : ℤ) → IsShort (r * r) k (px -ℤ qx) (py -ℤ qy)
            → ((pos k *ℤ px -ℤ pos k *ℤ qx) *ℤ (pos k *ℤ px -ℤ pos k *ℤ qx) +ℤ (pos k *ℤ py -ℤ pos k *ℤ qy) *ℤ (pos k *ℤ py -ℤ pos k *ℤ qy)) ≤ℤ pos ((r * (k * k)) * (r * (k * k)))
        at_one k px py qx qy h = rw (← mul_sub k px qx, ← mul_sub k py qy) (omega (arith, ints, shrunk (r * r) k (k * k) k (px -ℤ qx) (py -ℤ qy) (omega arith) h))

-- in the other order
pub pair_turned : (a : ℕ) (c d : Core) → Pair a c d → Pair a d c
pair_turned a c d h = record {
  p = h.q;
  q = h.p;
  same = sym h.same;
  first = h.second;
  second = h.first;
  close = turned h.p.scale h.q.scale h.p.x h.p.y h.q.x h.q.y h.same h.close;
}
  where
    back : (p q : ℤ) → q -ℤ p ≡ neg_ℤ (p -ℤ q)
    back p q = omega (arith, ints)

    turned : (k j : ℕ) (px py qx qy : ℤ) → k ≡ j → IsShort a k (px -ℤ qx) (py -ℤ qy) → IsShort a j (qx -ℤ px) (qy -ℤ py)
    turned k j px py qx qy e h =
        subst (λ (m : ℕ). IsShort a m (qx -ℤ px) (qy -ℤ py)) e
        (as_short a k _ _ _ _ (back px qx) (back py qy) (turned_back a k _ _ h))
