-- Two pieces of copper touch exactly where they have a point in common.
use Rattle.std.proofs.Common.{◌≡◌, refl, ℕ, zero, suc, ◌≤◌, ◌+◌, ◌*◌, inl, inr, arith, ap, sym, subst, ◌∙◌}
use Rattle.std.specs.Prelude.{ℤ, pos, negsuc, neg_ℤ, ◌+ℤ◌, ◌-ℤ◌, ◌*ℤ◌, ◌≤ℤ◌}
use Rattle.std.proofs.lemmas.Int.{ints}
use Rattle.std.proofs.lemmas.Bool.{cases_lt}
use Rattle.std.proofs.Math.Nat.{mul-le-mul_right}
use Rattle.touching.specs.Core.{Core, InCore, IsReached, InCopper, Touches}
use Rattle.touching.specs.Inner.Decision.{inner}
use Rattle.touching.specs.Laws.{CopperLaw}
use Rattle.touching.proofs.Ring.{square_sum, lagrange, weigh}
use Rattle.touching.proofs.Short.{IsShort, square_is, squares_are, square_le, scaled_square, as_short, rescaled, turned_back}
use Rattle.touching.proofs.Pairs.{Pair, touches_pair}
use Rattle.plane.specs.Plane.{PlanePoint, minus, positive_product}
use Rattle.grid_num.proofs.Products.{mul_add, mul_sub}
use Rattle.plane.proofs.Points.{mul_mul, mul_swap}

root_le : (m n : ℕ) → m * m ≤ n * n → m ≤ n
root_le m n h = elim (cases_lt n m) [
  | inl l ↦ let s = square_le (n + 1) m (omega arith) in absurd (omega arith)
  | inr l ↦ l
]

-- two steps one after the other are no longer than both together
inner_le : (r s f g k : ℕ) (d : ℤ) → f ≤ r * r → g ≤ s * s → pos g *ℤ pos f ≡ d *ℤ d +ℤ pos k → d ≤ℤ pos (r * s)
inner_le r s f g k (negsuc n) hf hg e = omega (arith, ints)
inner_le r s f g k (pos n) hf hg e =
    let p : g * f ≤ (s * s) * f = mul-le-mul_right f hg in
    let q : f * (s * s) ≤ (r * r) * (s * s) = mul-le-mul_right (s * s) hf in
    let l = root_le n (r * s) (omega (arith, ints, e, p, q)) in
    omega (arith, ints, l)

triangle : (r s : ℕ) (x y z w : ℤ) → inner x y x y ≤ℤ pos (r * r) → inner z w z w ≤ℤ pos (s * s)
    → inner (x +ℤ z) (y +ℤ w) (x +ℤ z) (y +ℤ w) ≤ℤ pos ((r + s) * (r + s))
triangle r s x y z w h k =
    let f = squares_are x y in
    let g = squares_are z w in
    let c = square_is (x *ℤ w -ℤ y *ℤ z) in
    let e : pos g.0 *ℤ pos f.0 ≡ inner x y z w *ℤ inner x y z w +ℤ pos c.0 =
    sym (ap (λ (v : ℤ). v *ℤ pos f.0) g.1) ∙ sym (ap (λ (v : ℤ). inner z w z w *ℤ v) f.1) ∙ lagrange x y z w ∙ ap (λ (v : ℤ). inner x y z w *ℤ inner x y z w +ℤ v) c.1 in
    let d = inner_le r s f.0 g.0 c.0 (inner x y z w) (omega (arith, ints, f.1, h)) (omega (arith, ints, g.1, k)) e in
    omega (arith, ints, square_sum x z, square_sum y w, d, h, k)

-- ---- a common point, from cores within reach: it parts the way in the ratio of the radii

-- along one coordinate, from the one end and from the other
from_first : (a b k : ℕ) (p q : ℤ) → (pos ((a + b) * k) *ℤ p -ℤ pos k *ℤ (pos b *ℤ p +ℤ pos a *ℤ q)) ≡ pos (k * a) *ℤ (p -ℤ q)
from_first a b k p q =
    omega (
      arith,
      ints,
      mul_mul k (a + b) p,
      ap (λ (n : ℕ). pos n *ℤ p) (swapped k (a + b)),
      ap (λ (z : ℤ). pos k *ℤ z) (weigh a b p),
      mul_add k (pos a *ℤ p) (pos b *ℤ p),
      mul_add k (pos b *ℤ p) (pos a *ℤ q),
      mul_mul k a p,
      mul_mul k a q,
      mul_sub (k * a) p q,
    )
  where
    swapped : (k n : ℕ) → k * n ≡ n * k
    swapped k n = omega arith

from_second : (a b k : ℕ) (p q : ℤ) → (pos ((a + b) * k) *ℤ q -ℤ pos k *ℤ (pos b *ℤ p +ℤ pos a *ℤ q)) ≡ pos (k * b) *ℤ (q -ℤ p)
from_second a b k p q =
    omega (
      arith,
      ints,
      mul_mul k (a + b) q,
      ap (λ (n : ℕ). pos n *ℤ q) (swapped k (a + b)),
      ap (λ (z : ℤ). pos k *ℤ z) (weigh a b q),
      mul_add k (pos a *ℤ q) (pos b *ℤ q),
      mul_add k (pos b *ℤ p) (pos a *ℤ q),
      mul_mul k b p,
      mul_mul k b q,
      mul_sub (k * b) q p,
    )
  where
    swapped : (k n : ℕ) → k * n ≡ n * k
    swapped k n = omega arith

part_short : (a s k : ℕ) (x y u v : ℤ) → u ≡ pos (k * a) *ℤ x → v ≡ pos (k * a) *ℤ y → IsShort (s * s) k x y
    → (u *ℤ u +ℤ v *ℤ v) ≤ℤ pos ((a * (k * (s * k))) * (a * (k * (s * k))))
part_short a s k x y u v eu ev h =
    let m = squares_are x y in
    let l : m.0 * ((k * a) * (k * a)) ≤ ((s * s) * (k * k)) * ((k * a) * (k * a)) = mul-le-mul_right ((k * a) * (k * a)) (omega (arith, ints, h, m.1)) in
    rw (eu, ev) (omega (arith, ints, scaled_square (k * a) x y, ap (λ (z : ℤ). pos ((k * a) * (k * a)) *ℤ z) m.1, l))

shared : (a b : ℕ) (c d : Core) → 1 ≤ a + b → Pair ((a + b) * (a + b)) c d → (p : PlanePoint) × InCopper c a p × InCopper d b p
unfolding InCopper IsReached minus
shared a b c d some h = by_scale h.p h.q h.same h.first h.second h.close
  where
    by_scale : (p q : PlanePoint) → p.scale ≡ q.scale → InCore c p → InCore d q → IsShort ((a + b) * (a + b)) p.scale (p.x -ℤ q.x) (p.y -ℤ q.y)
        → (m : PlanePoint) × InCopper c a m × InCopper d b m
    by_scale p q e f g s = (
      record {
        x = pos b *ℤ p.x +ℤ pos a *ℤ q.x;
        y = pos b *ℤ p.y +ℤ pos a *ℤ q.y;
        scale = (a + b) * p.scale;
        positive = positive_product (a + b) p.scale some p.positive;
      },
      (p, f, part_short a (a + b) p.scale _ _ _ _ (from_first a b p.scale p.x q.x) (from_first a b p.scale p.y q.y) s),
      (q, g, second p.scale q.scale p.x q.x p.y q.y e s),
    )
      where
        second : (k j : ℕ) (px qx py qy : ℤ) → k ≡ j → IsShort ((a + b) * (a + b)) k (px -ℤ qx) (py -ℤ qy)
            → ((pos ((a + b) * k) *ℤ qx -ℤ pos j *ℤ (pos b *ℤ px +ℤ pos a *ℤ qx)) *ℤ (pos ((a + b) * k) *ℤ qx -ℤ pos j *ℤ (pos b *ℤ px +ℤ pos a *ℤ qx))
            +ℤ (pos ((a + b) * k) *ℤ qy -ℤ pos j *ℤ (pos b *ℤ py +ℤ pos a *ℤ qy)) *ℤ (pos ((a + b) * k) *ℤ qy -ℤ pos j *ℤ (pos b *ℤ py +ℤ pos a *ℤ qy)))
            ≤ℤ pos ((b * (j * ((a + b) * k))) * (b * (j * ((a + b) * k))))
        second k j px qx py qy e s = subst
            (λ (l : ℕ). ((pos ((a + b) * k) *ℤ qx -ℤ pos l *ℤ (pos b *ℤ px +ℤ pos a *ℤ qx)) *ℤ (pos ((a + b) * k) *ℤ qx -ℤ pos l *ℤ (pos b *ℤ px +ℤ pos a *ℤ qx))
            +ℤ (pos ((a + b) * k) *ℤ qy -ℤ pos l *ℤ (pos b *ℤ py +ℤ pos a *ℤ qy)) *ℤ (pos ((a + b) * k) *ℤ qy -ℤ pos l *ℤ (pos b *ℤ py +ℤ pos a *ℤ qy)))
            ≤ℤ pos ((b * (l * ((a + b) * k))) * (b * (l * ((a + b) * k))))) e
            (part_short b (a + b) k (qx -ℤ px) (qy -ℤ py) _ _ (from_second a b k px qx) (from_second a b k py qy)
            (as_short ((a + b) * (a + b)) k _ _ _ _ (back px qx) (back py qy) (turned_back ((a + b) * (a + b)) k _ _ s)))
          where
            back : (p q : ℤ) → q -ℤ p ≡ neg_ℤ (p -ℤ q)
            back p q = omega (arith, ints)

-- where both radii are 0 the near points are one
meeting : (c d : Core) → Pair 0 c d → (p : PlanePoint) × InCopper c 0 p × InCopper d 0 p
unfolding InCopper IsReached minus
meeting c d h = (h.p, (h.p, h.first, still h.p.scale h.p.x h.p.y), (h.q, h.second, same_place h.p.scale h.q.scale h.p.x h.q.x h.p.y h.q.y h.same h.close))
  where
    still : (k : ℕ) (x y : ℤ) → ((pos k *ℤ x -ℤ pos k *ℤ x) *ℤ (pos k *ℤ x -ℤ pos k *ℤ x) +ℤ (pos k *ℤ y -ℤ pos k *ℤ y) *ℤ (pos k *ℤ y -ℤ pos k *ℤ y)) ≤ℤ pos ((0 * (k * k)) * (0 * (k * k)))
    still k x y = rw (nothing (pos k *ℤ x), nothing (pos k *ℤ y)) (omega (arith, ints))
      where
        nothing : (z : ℤ) → z -ℤ z ≡ pos 0
        nothing z = omega (arith, ints)

    same_place : (k j : ℕ) (px qx py qy : ℤ) → k ≡ j → IsShort 0 k (px -ℤ qx) (py -ℤ qy)
        → ((pos k *ℤ qx -ℤ pos j *ℤ px) *ℤ (pos k *ℤ qx -ℤ pos j *ℤ px) +ℤ (pos k *ℤ qy -ℤ pos j *ℤ py) *ℤ (pos k *ℤ qy -ℤ pos j *ℤ py)) ≤ℤ pos ((0 * (j * k)) * (0 * (j * k)))
    same_place k j px qx py qy e h = subst
        (λ (l : ℕ). ((pos k *ℤ qx -ℤ pos l *ℤ px) *ℤ (pos k *ℤ qx -ℤ pos l *ℤ px) +ℤ (pos k *ℤ qy -ℤ pos l *ℤ py) *ℤ (pos k *ℤ qy -ℤ pos l *ℤ py)) ≤ℤ pos ((0 * (l * k)) * (0 * (l * k)))) e
        (omega (arith, ints, at_one))
      where
        at_one : IsShort 0 k (pos k *ℤ qx -ℤ pos k *ℤ px) (pos k *ℤ qy -ℤ pos k *ℤ py)
        at_one = rw (← mul_sub k qx px, ← mul_sub k qy py) (less k (qx -ℤ px) (qy -ℤ py) (as_short 0 k _ _ _ _ (back px qx) (back py qy) (turned_back 0 k _ _ h)))
          where
            back : (p q : ℤ) → q -ℤ p ≡ neg_ℤ (p -ℤ q)
            back p q = omega (arith, ints)

            less : (k : ℕ) (x y : ℤ) → IsShort 0 k x y → IsShort 0 k (pos k *ℤ x) (pos k *ℤ y)
            less k x y h =
                let m = squares_are x y in
                let z : m.0 * (k * k) ≡ 0 = no_more m.0 (k * k) (omega (arith, ints, h, m.1)) in
                omega (arith, ints, scaled_square k x y, ap (λ (z : ℤ). pos (k * k) *ℤ z) m.1, z)
              where
                no_more : (m k : ℕ) → m ≤ 0 → m * k ≡ 0
                no_more zero k h = omega arith
                no_more (suc m) k h = absurd (omega arith)

-- ---- and back: the way over a common point is no longer than both radii

-- along one coordinate
over : (i j n : ℕ) (p q m : ℤ) → pos n *ℤ (pos j *ℤ p -ℤ pos i *ℤ q) ≡ pos j *ℤ (pos n *ℤ p -ℤ pos i *ℤ m) +ℤ neg_ℤ (pos i *ℤ (pos n *ℤ q -ℤ pos j *ℤ m))
over i j n p q m =
    omega (
      arith,
      ints,
      mul_sub n (pos j *ℤ p) (pos i *ℤ q),
      mul_swap n j p,
      mul_swap n i q,
      mul_sub j (pos n *ℤ p) (pos i *ℤ m),
      mul_sub i (pos n *ℤ q) (pos j *ℤ m),
      mul_swap j i m,
    )

-- a step of a radius, drawn out
drawn : (a k u : ℕ) (x y : ℤ) → (x *ℤ x +ℤ y *ℤ y) ≤ℤ pos ((a * k) * (a * k)) → inner (pos u *ℤ x) (pos u *ℤ y) (pos u *ℤ x) (pos u *ℤ y) ≤ℤ pos ((a * (u * k)) * (a * (u * k)))
drawn a k u x y h =
    let m = squares_are x y in
    let l : m.0 * (u * u) ≤ ((a * k) * (a * k)) * (u * u) = mul-le-mul_right (u * u) (omega (arith, ints, h, m.1)) in
    omega (arith, ints, scaled_square u x y, ap (λ (z : ℤ). pos (u * u) *ℤ z) m.1, l)

neg_square : (x y : ℤ) → inner (neg_ℤ x) (neg_ℤ y) (neg_ℤ x) (neg_ℤ y) ≡ inner x y x y
neg_square x y = omega (arith, ints, one x, one y)
  where
    one : (x : ℤ) → neg_ℤ x *ℤ neg_ℤ x ≡ x *ℤ x
    one (pos zero) = refl
    one (pos (suc n)) = omega (arith, ints)
    one (negsuc n) = omega (arith, ints)

way : (a b : ℕ) (p q m : PlanePoint) → IsReached a p m → IsReached b q m → IsReached (a + b) p q
unfolding IsReached minus
way a b p q m h g =
    let s = drawn a (p.scale * m.scale) q.scale (minus p m).x (minus p m).y h in
    let t = drawn b (q.scale * m.scale) p.scale (minus q m).x (minus q m).y g in
    measured p.scale q.scale m.scale _ _ _ _ _ _ p.positive q.positive m.positive
    (over p.scale q.scale m.scale p.x q.x m.x) (over p.scale q.scale m.scale p.y q.y m.y) s t
  where
    measured : (i j n : ℕ) (x y u v z w : ℤ) → 1 ≤ i → 1 ≤ j → 1 ≤ n → pos n *ℤ x ≡ u +ℤ neg_ℤ z → pos n *ℤ y ≡ v +ℤ neg_ℤ w
        → inner u v u v ≤ℤ pos ((a * (j * (i * n))) * (a * (j * (i * n)))) → inner z w z w ≤ℤ pos ((b * (i * (j * n))) * (b * (i * (j * n))))
        → (x *ℤ x +ℤ y *ℤ y) ≤ℤ pos (((a + b) * (i * j)) * ((a + b) * (i * j)))
    measured i j n x y u v z w oi oj on ex ey h g =
        let t = triangle (a * (j * (i * n))) (b * (i * (j * n))) u v (neg_ℤ z) (neg_ℤ w) h (omega (arith, ints, g, neg_square z w)) in
        let s : IsShort ((a + b) * (a + b)) (i * j * n) (pos n *ℤ x) (pos n *ℤ y) =
        as_short ((a + b) * (a + b)) (i * j * n) _ _ _ _ ex ey (omega (arith, ints, t)) in
        omega (
          arith,
          ints,
          rescaled ((a + b) * (a + b)) (i * j * n) (i * j) (pos n *ℤ x) (pos n *ℤ y) x y
              (positive_product (i * j) n (positive_product i j oi oj) on) (sym (mul_mul (i * j) n x)) (sym (mul_mul (i * j) n y)) s,
        )

pub copper_law : CopperLaw
unfolding InCopper Touches
copper_law a b c d = (there, λ h. (h.1.0, h.2.0, h.1.1, h.2.1, way a b h.1.0 h.2.0 h.0 h.1.2 h.2.2))
  where
    zeros : (a b : ℕ) → a + b ≤ 0 → (a ≡ 0) × (b ≡ 0)
    zeros zero zero h = (refl, refl)
    zeros (suc a) b h = absurd (omega arith)
    zeros zero (suc b) h = absurd (omega arith)

    none : (a b : ℕ) → (a ≡ 0) × (b ≡ 0) → Pair ((a + b) * (a + b)) c d → (p : PlanePoint) × InCopper c a p × InCopper d b p
    none a b z h = rw (z.0, z.1) (meeting c d (subst (λ (r : ℕ). Pair r c d) (nothing a b z.0 z.1) h))
      where
        nothing : (a b : ℕ) → a ≡ 0 → b ≡ 0 → (a + b) * (a + b) ≡ 0
        nothing a b e f = rw (e, f) refl

    there : Touches (a + b) c d → (p : PlanePoint) × InCopper c a p × InCopper d b p
    there h = elim (cases_lt 0 (a + b)) [
      | inl l ↦ shared a b c d (omega arith) (touches_pair (a + b) c d h)
      | inr l ↦ none a b (zeros a b l) (touches_pair (a + b) c d h)
    ]
