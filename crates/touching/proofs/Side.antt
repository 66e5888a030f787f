-- A side of an octagon and the origin.
use Rattle.std.proofs.Common.{◌≡◌, ℕ, zero, suc, ◌+◌, ◌≤◌, ◌*◌, inl, inr, arith, ap, ◌∙◌}
use Rattle.std.specs.Prelude.{ℤ, pos, negsuc, ◌+ℤ◌, ◌*ℤ◌, ◌≤ℤ◌}
use Rattle.std.proofs.lemmas.Int.{ints, by_lt_z}
use Rattle.touching.specs.Inner.Decision.{IsSideClose}
use Rattle.touching.proofs.Ring.{swap4}
use Rattle.touching.proofs.Scalars.{cancel, one_square}
use Rattle.touching.proofs.Short.{square_is, square_le}

cancel_z : (k r : ℕ) (a b : ℤ) → 1 ≤ k → (pos (k * k) *ℤ (a *ℤ a) +ℤ pos (k * k) *ℤ (b *ℤ b)) ≤ℤ pos (r * (k * k)) → (a *ℤ a +ℤ b *ℤ b) ≤ℤ pos r
cancel_z k r a b one h =
    let m = square_is a in
    let n = square_is b in
    let c = cancel (k * k) (m.0 + n.0) r (one_square k one)
    (omega (arith, ints, h, ap (λ (z : ℤ). pos (k * k) *ℤ z) m.1, ap (λ (z : ℤ). pos (k * k) *ℤ z) n.1)) in
    omega (arith, ints, m.1, n.1)

up_square : (a b : ℤ) → pos 0 ≤ℤ a → a ≤ℤ b → (a *ℤ a) ≤ℤ (b *ℤ b)
up_square (pos a) (pos b) h l = let s = square_le a b (omega (arith, ints)) in omega (arith, ints)
up_square (negsuc a) b h l = absurd (omega (arith, ints))
up_square (pos a) (negsuc b) h l = absurd (omega (arith, ints))

down_square : (a b : ℤ) → b ≤ℤ pos 0 → a ≤ℤ b → (b *ℤ b) ≤ℤ (a *ℤ a)
down_square (negsuc a) (negsuc b) h l = let s = square_le (b + 1) (a + 1) (omega (arith, ints)) in omega (arith, ints)
down_square (negsuc a) (pos zero) h l = omega (arith, ints)
down_square (negsuc a) (pos (suc b)) h l = absurd (omega (arith, ints))
down_square (pos zero) (pos zero) h l = omega (arith, ints)
down_square (pos (suc a)) b h l = absurd (omega (arith, ints))
down_square (pos zero) (negsuc b) h l = absurd (omega (arith, ints))
down_square (pos zero) (pos (suc b)) h l = absurd (omega (arith, ints))

-- a point of the side within reach at the scale k
pub side_test : (r k : ℕ) (c low high x y : ℤ) → 1 ≤ k → x ≡ pos k *ℤ c → (pos k *ℤ low) ≤ℤ y → y ≤ℤ (pos k *ℤ high)
    → (x *ℤ x +ℤ y *ℤ y) ≤ℤ pos (r * (k * k)) → IsSideClose r c low high
unfolding IsSideClose
side_test r k c low high x y one e l h close =
    by_lt_z {P = IsSideClose r c low high} (pos 0) low
    (λ up.
    let s = up_square (pos k *ℤ low) y (mul_nonneg k low (omega (arith, ints, up))) l in
    inr (inl (up, cancel_z k r c low one (omega (arith, ints, close, s, xx, swap4 (pos k) low (pos k) low)))))
    (λ no. by_lt_z {P = IsSideClose r c low high} high (pos 0)
    (λ down.
    let s = down_square y (pos k *ℤ high) (mul_nonpos k high (omega (arith, ints, down))) h in
    inr (inr (down, cancel_z k r c high one (omega (arith, ints, close, s, xx, swap4 (pos k) high (pos k) high)))))
    (λ on.
    let z = cancel_z k r c (pos 0) one (omega (arith, ints, close, xx, (square_is y).1)) in
    inl (no, on, omega (arith, ints, z))))
  where
    xx : (x *ℤ x) ≡ pos (k * k) *ℤ (c *ℤ c)
    xx = ap (λ (z : ℤ). z *ℤ z) e ∙ swap4 (pos k) c (pos k) c

    mul_nonneg : (k : ℕ) (a : ℤ) → pos 0 ≤ℤ a → pos 0 ≤ℤ (pos k *ℤ a)
    mul_nonneg k (pos a) h = omega (arith, ints)
    mul_nonneg k (negsuc a) h = absurd (omega (arith, ints))

    mul_nonpos : (k : ℕ) (a : ℤ) → a ≤ℤ pos 0 → (pos k *ℤ a) ≤ℤ pos 0
    mul_nonpos k (pos zero) h = omega (arith, ints)
    mul_nonpos k (pos (suc a)) h = absurd (omega (arith, ints))
    mul_nonpos k (negsuc a) h = omega (arith, ints)
