-- What is not near the copper round a point keeps the need and the radius from the point.
use lib.IntN.{zero-*ℤ}
use Rattle.std.proofs.Common.{◌≡◌, sym, ◌∙◌, ap, subst, ℕ, zero, suc, ◌+◌, ◌*◌, ◌≤◌, arith}
use Rattle.std.specs.Prelude.{ℤ, pos, negsuc, ◌+ℤ◌, ◌-ℤ◌, ◌*ℤ◌, ◌≤ℤ◌, ◌<ℤ◌}
use Rattle.std.proofs.Math.IntN.{*ℤ_comm, *ℤ-negsuc, pos-*ℤ-pos}
use Rattle.std.proofs.lemmas.Int.{ints, by_lt_z}
use Rattle.plane.specs.Plane.{PlanePoint, minus, positive_product, IsNear, scaled_dist_sq}
use Rattle.grid_num.proofs.Products.{mul_suc, mul_le, mul_add, mul_sub, mul_le_back}
use Rattle.plane.proofs.Points.{mul_mul, mul_swap}
use Rattle.plane.proofs.Euclid.{euclid}
use Rattle.fill_rules.specs.Distance.{IsWithin}
use Rattle.fill_rules.proofs.Heights.{scale_add}

add_times : (u v y : ℤ) → (u +ℤ v) *ℤ y ≡ u *ℤ y +ℤ v *ℤ y
add_times u v (pos n) = omega (arith, ints, *ℤ_comm (u +ℤ v) (pos n), *ℤ_comm u (pos n), *ℤ_comm v (pos n), mul_add n u v)
add_times u v (negsuc n) =
    omega (arith, ints, *ℤ-negsuc (u +ℤ v) n, *ℤ-negsuc u n, *ℤ-negsuc v n, *ℤ_comm (u +ℤ v) (pos (suc n)), *ℤ_comm u (pos (suc n)), *ℤ_comm v (pos (suc n)), mul_add (suc n) u v)

times_times : (m : ℕ) (x y : ℤ) → (pos m *ℤ x) *ℤ y ≡ pos m *ℤ (x *ℤ y)
times_times zero x y = ap (λ z. z *ℤ y) (zero-*ℤ x) ∙ (zero-*ℤ y ∙ sym (zero-*ℤ (x *ℤ y)))
times_times (suc m) x y =
    ap (λ z. z *ℤ y) (mul_suc m x) ∙ (add_times (pos m *ℤ x) x y ∙ (ap (λ z. z +ℤ x *ℤ y) (times_times m x y) ∙ sym (mul_suc m (x *ℤ y))))

-- the square of a multiple
square_of : (m : ℕ) (x : ℤ) → (pos m *ℤ x) *ℤ (pos m *ℤ x) ≡ pos (m * m) *ℤ (x *ℤ x)
square_of m x =
    times_times m x (pos m *ℤ x) ∙ (ap (λ z. pos m *ℤ z) (*ℤ_comm x (pos m *ℤ x) ∙ times_times m x x) ∙ mul_mul m m (x *ℤ x))

squares_of : (m : ℕ) (x y u v : ℤ) → u ≡ pos m *ℤ x → v ≡ pos m *ℤ y → u *ℤ u +ℤ v *ℤ v ≡ pos (m * m) *ℤ (x *ℤ x +ℤ y *ℤ y)
squares_of m x y u v e f =
    ap (λ z. z *ℤ z +ℤ v *ℤ v) e ∙ (ap (λ z. (pos m *ℤ x) *ℤ (pos m *ℤ x) +ℤ z *ℤ z) f
    ∙ omega (arith, ints, square_of m x, square_of m y, mul_add (m * m) (x *ℤ x) (y *ℤ y)))

-- the point that divides the way from q to p as r does 4 a + r
unfoldable toward : (a r : ℕ) → 1 ≤ 4 * a + r → PlanePoint → PlanePoint → PlanePoint
toward a r one p q =
    record {
      x = pos (4 * a * p.scale) *ℤ q.x +ℤ pos (r * q.scale) *ℤ p.x;
      y = pos (4 * a * p.scale) *ℤ q.y +ℤ pos (r * q.scale) *ℤ p.y;
      scale = (4 * a + r) * (p.scale * q.scale);
      positive = positive_product (4 * a + r) (p.scale * q.scale) one (positive_product p.scale q.scale p.positive q.positive);
    }

from_q : (a r j k : ℕ) (x y : ℤ) → pos k *ℤ (pos (4 * a * j) *ℤ y +ℤ pos (r * k) *ℤ x) -ℤ pos ((4 * a + r) * (j * k)) *ℤ y ≡ pos (r * k) *ℤ (pos k *ℤ x -ℤ pos j *ℤ y)
from_q a r j k x y =
    let e1 : pos k *ℤ (pos (4 * a * j) *ℤ y) ≡ pos (4 * a * j * k) *ℤ y = mul_mul k (4 * a * j) y ∙ ap (λ (n : ℕ). pos n *ℤ y) (omega arith) in
    let e2 : pos k *ℤ (pos (r * k) *ℤ x) ≡ pos (r * k) *ℤ (pos k *ℤ x) = mul_swap k (r * k) x in
    let e3 : pos (r * k) *ℤ (pos j *ℤ y) ≡ pos (r * k * j) *ℤ y = mul_mul (r * k) j y in
    let e4 : pos ((4 * a + r) * (j * k)) *ℤ y ≡ pos (4 * a * j * k + r * k * j) *ℤ y = ap (λ (n : ℕ). pos n *ℤ y) (omega arith) in
    omega (arith, ints, e1, e2, e3, e4, mul_add k (pos (4 * a * j) *ℤ y) (pos (r * k) *ℤ x), mul_sub (r * k) (pos k *ℤ x) (pos j *ℤ y), scale_add (4 * a * j * k) (r * k * j) y)

from_p : (a r j k : ℕ) (x y : ℤ) → pos ((4 * a + r) * (j * k)) *ℤ x -ℤ pos j *ℤ (pos (4 * a * j) *ℤ y +ℤ pos (r * k) *ℤ x) ≡ pos (4 * a * j) *ℤ (pos k *ℤ x -ℤ pos j *ℤ y)
from_p a r j k x y =
    let e1 : pos j *ℤ (pos (r * k) *ℤ x) ≡ pos (r * k * j) *ℤ x = mul_mul j (r * k) x ∙ ap (λ (n : ℕ). pos n *ℤ x) (omega arith) in
    let e2 : pos j *ℤ (pos (4 * a * j) *ℤ y) ≡ pos (4 * a * j) *ℤ (pos j *ℤ y) = mul_swap j (4 * a * j) y in
    let e3 : pos (4 * a * j) *ℤ (pos k *ℤ x) ≡ pos (4 * a * j * k) *ℤ x = mul_mul (4 * a * j) k x in
    let e4 : pos ((4 * a + r) * (j * k)) *ℤ x ≡ pos (4 * a * j * k + r * k * j) *ℤ x = ap (λ (n : ℕ). pos n *ℤ x) (omega arith) in
    omega (arith, ints, e1, e2, e3, e4, mul_add j (pos (4 * a * j) *ℤ y) (pos (r * k) *ℤ x), mul_sub (4 * a * j) (pos k *ℤ x) (pos j *ℤ y), scale_add (4 * a * j * k) (r * k * j) x)

-- the way from the point to q is r / (4 a + r) of the way from p to q
toward_q : (a r : ℕ) (one : 1 ≤ 4 * a + r) (p q : PlanePoint)
    → scaled_dist_sq (toward a r one p q) q ≡ pos ((r * q.scale) * (r * q.scale)) *ℤ scaled_dist_sq p q
unfolding toward minus
toward_q a r one p q =
    squares_of (r * q.scale) (pos q.scale *ℤ p.x -ℤ pos p.scale *ℤ q.x) (pos q.scale *ℤ p.y -ℤ pos p.scale *ℤ q.y) _ _
    (from_q a r p.scale q.scale p.x q.x) (from_q a r p.scale q.scale p.y q.y)

toward_p : (a r : ℕ) (one : 1 ≤ 4 * a + r) (p q : PlanePoint)
    → scaled_dist_sq p (toward a r one p q) ≡ pos ((4 * a * p.scale) * (4 * a * p.scale)) *ℤ scaled_dist_sq p q
unfolding toward minus
toward_p a r one p q =
    squares_of (4 * a * p.scale) (pos q.scale *ℤ p.x -ℤ pos p.scale *ℤ q.x) (pos q.scale *ℤ p.y -ℤ pos p.scale *ℤ q.y) _ _
    (from_p a r p.scale q.scale p.x q.x) (from_p a r p.scale q.scale p.y q.y)

within_close : (m g : ℕ) (s : ℤ) → (pos 16 *ℤ s) ≤ℤ pos g → (pos 16 *ℤ (pos m *ℤ s)) ≤ℤ pos (m * g)
within_close m g s h =
    let a : (pos m *ℤ (pos 16 *ℤ s)) ≤ℤ (pos m *ℤ pos g) = mul_le m (pos 16 *ℤ s) (pos g) h in
    omega (arith, ints, a, mul_swap 16 m s, pos-*ℤ-pos m g)

back_close : (m g : ℕ) (s : ℤ) → 1 ≤ m → pos (m * g) ≤ℤ (pos (16 * m) *ℤ s) → pos g ≤ℤ (pos 16 *ℤ s)
back_close m g s one h =
    let a : pos (16 * m) *ℤ s ≡ pos m *ℤ (pos 16 *ℤ s) = sym (mul_mul 16 m s) ∙ mul_swap 16 m s in
    mul_le_back m (pos g) (pos 16 *ℤ s) one (omega (arith, ints, h, a, pos-*ℤ-pos m g))

squares_one : (r n k : ℕ) → (r * (n * k)) * (r * (n * k)) ≡ (r * k * (r * k)) * (n * n)
squares_one r n k = omega arith

squares_two : (a j n : ℕ) → (a * (j * n)) * (a * (j * n)) ≡ (a * j * (a * j)) * (n * n)
squares_two a j n = omega arith

squares_three : (a j : ℕ) → (4 * a * j) * (4 * a * j) ≡ 16 * (a * j * (a * j))
squares_three a j = omega arith

-- Where p is not near at a to any point within r halves of q, its distance from q is at least a and r halves.
pub keeps_distance : (a r : ℕ) → 1 ≤ a → (p q : PlanePoint) → ((h : PlanePoint) → IsWithin r h q → IsNear a p h → ⊥)
    → pos (((4 * a + r) * (p.scale * q.scale)) * ((4 * a + r) * (p.scale * q.scale))) ≤ℤ (pos 16 *ℤ scaled_dist_sq p q)
unfolding toward minus
keeps_distance a r one p q far = by_lt_z {P = pos (n * n) ≤ℤ (pos 16 *ℤ s)} (pos 16 *ℤ s) (pos (n * n)) (λ l. close l) (λ l. l)
  where
    s : ℤ
    s = scaled_dist_sq p q

    n : ℕ
    n = (4 * a + r) * (p.scale * q.scale)

    some : 1 ≤ 4 * a + r
    some = omega arith

    h : PlanePoint
    h = toward a r some p q

    m : ℕ
    m = a * p.scale * (a * p.scale)

    m_one : 1 ≤ m
    m_one = positive_product (a * p.scale) (a * p.scale) (positive_product a p.scale one p.positive) (positive_product a p.scale one p.positive)

    near_q : (pos 16 *ℤ s) <ℤ pos (n * n) → IsWithin r h q
    near_q l = record {
      close = rw (toward_q a r some p q) (subst (λ (x : ℕ). (pos 16 *ℤ (pos ((r * q.scale) * (r * q.scale)) *ℤ s)) ≤ℤ pos x) (sym (squares_one r n q.scale))
          (within_close ((r * q.scale) * (r * q.scale)) (n * n) s (omega (arith, ints, l))));
    }

    close : (pos 16 *ℤ s) <ℤ pos (n * n) → pos (n * n) ≤ℤ (pos 16 *ℤ s)
    close l =
        let e = euclid a p h (far h (near_q l)) in
        let f : pos ((a * (p.scale * n)) * (a * (p.scale * n))) ≤ℤ (pos ((4 * a * p.scale) * (4 * a * p.scale)) *ℤ s) = subst (λ (x : ℤ). pos ((a * (p.scale * n)) * (a * (p.scale * n))) ≤ℤ x) (toward_p a r some p q) e in
        back_close m (n * n) s m_one
        (subst (λ (x : ℕ). pos x ≤ℤ (pos (16 * m) *ℤ s)) (squares_two a p.scale n) (subst (λ (x : ℕ). pos ((a * (p.scale * n)) * (a * (p.scale * n))) ≤ℤ (pos x *ℤ s)) (squares_three a p.scale) f))
