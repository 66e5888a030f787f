-- Products of a whole number by a scale.
use Rattle.std.proofs.Common.{◌≡◌, ℕ, zero, suc, ◌≤◌, arith}
use Rattle.std.specs.Prelude.{ℤ, pos, neg_ℤ, ◌+ℤ◌, ◌-ℤ◌, ◌*ℤ◌, ◌≤ℤ◌, ◌<ℤ◌}
use Rattle.std.proofs.lemmas.Int.{ints, by_lt_z}
use lib.IntN.{suc_ℤ-*ℤ, zero-*ℤ}

pub mul_suc : (k : ℕ) (a : ℤ) → pos (suc k) *ℤ a ≡ pos k *ℤ a +ℤ a
mul_suc k a = suc_ℤ-*ℤ (pos k) a

pub mul_le : (k : ℕ) (a b : ℤ) → a ≤ℤ b → (pos k *ℤ a) ≤ℤ (pos k *ℤ b)
mul_le zero a b h = omega (arith, ints, zero-*ℤ a, zero-*ℤ b)
mul_le (suc k) a b h = omega (arith, ints, mul_suc k a, mul_suc k b, mul_le k a b h)

pub mul_add : (k : ℕ) (a b : ℤ) → pos k *ℤ (a +ℤ b) ≡ pos k *ℤ a +ℤ pos k *ℤ b
mul_add zero a b = omega (arith, ints, zero-*ℤ a, zero-*ℤ b, zero-*ℤ (a +ℤ b))
mul_add (suc k) a b = omega (arith, ints, mul_suc k a, mul_suc k b, mul_suc k (a +ℤ b), mul_add k a b)

pub mul_sub : (k : ℕ) (a b : ℤ) → pos k *ℤ (a -ℤ b) ≡ pos k *ℤ a -ℤ pos k *ℤ b
mul_sub zero a b = omega (arith, ints, zero-*ℤ a, zero-*ℤ b, zero-*ℤ (a -ℤ b))
mul_sub (suc k) a b = omega (arith, ints, mul_suc k a, mul_suc k b, mul_suc k (a -ℤ b), mul_sub k a b)

pub mul_neg : (k : ℕ) (a : ℤ) → pos k *ℤ neg_ℤ a ≡ neg_ℤ (pos k *ℤ a)
mul_neg zero a = omega (arith, ints, zero-*ℤ a, zero-*ℤ (neg_ℤ a))
mul_neg (suc k) a = omega (arith, ints, mul_suc k a, mul_suc k (neg_ℤ a), mul_neg k a)

-- strictly, for a scale of at least 1
pub mul_lt : (k : ℕ) (a b : ℤ) → 1 ≤ k → a <ℤ b → (pos k *ℤ a) <ℤ (pos k *ℤ b)
mul_lt zero a b one h = omega (arith, ints)
mul_lt (suc k) a b one h =
    let less : a ≤ℤ b = omega (arith, ints) in
    omega (arith, ints, mul_suc k a, mul_suc k b, mul_le k a b less)

pub mul_le_back : (k : ℕ) (a b : ℤ) → 1 ≤ k → (pos k *ℤ a) ≤ℤ (pos k *ℤ b) → a ≤ℤ b
mul_le_back k a b one h = by_lt_z {P = a ≤ℤ b} b a (λ l. let m = mul_lt k b a one l in omega (arith, ints)) (λ l. l)

pub mul_lt_back : (k : ℕ) (a b : ℤ) → (pos k *ℤ a) <ℤ (pos k *ℤ b) → a <ℤ b
mul_lt_back k a b h = by_lt_z {P = a <ℤ b} a b (λ l. l) (λ l. let m = mul_le k b a l in omega (arith, ints))
