-- Steps at a scale, and how long they are.
use Rattle.std.proofs.Common.{◌≡◌, refl, ℕ, zero, suc, ◌≤◌, ◌+◌, ◌*◌, arith, ap, sym, subst}
use Rattle.std.specs.Prelude.{ℤ, pos, negsuc, neg_ℤ, ◌+ℤ◌, ◌*ℤ◌, ◌≤ℤ◌}
use Rattle.std.proofs.lemmas.Int.{ints}
use Rattle.std.proofs.Math.Nat.{mul-le-mul_right}
use Rattle.touching.specs.Inner.Decision.{inner}
use Rattle.touching.proofs.Ring.{swap4}
use Rattle.touching.proofs.Scalars.{cancel, one_square}
use Rattle.grid_num.proofs.Products.{mul_add}

-- x and y, at the scale k, are at most the root of a long
abbrev pub IsShort : ℕ → ℕ → ℤ → ℤ → Type 0
IsShort a k x y = (x *ℤ x +ℤ y *ℤ y) ≤ℤ pos (a * (k * k))

pub square_is : (a : ℤ) → (m : ℕ) × (a *ℤ a ≡ pos m)
square_is (pos a) = (a * a, refl)
square_is (negsuc a) = ((a + 1) * (a + 1), omega (arith, ints))

pub squares_are : (a b : ℤ) → (m : ℕ) × (inner a b a b ≡ pos m)
squares_are a b = let m = square_is a in let n = square_is b in (m.0 + n.0, omega (arith, ints))

pub square_le : (a b : ℕ) → a ≤ b → a * a ≤ b * b
square_le a b h =
    let p : a * a ≤ b * a = mul-le-mul_right a h in
    let q : a * b ≤ b * b = mul-le-mul_right b h in
    omega arith

pub natural : (z : ℤ) → pos 0 ≤ℤ z → (n : ℕ) × (z ≡ pos n)
natural (pos n) h = (n, refl)
natural (negsuc n) h = absurd (omega (arith, ints))

pub as_short : (a n : ℕ) (x y x1 y1 : ℤ) → x1 ≡ x → y1 ≡ y → IsShort a n x y → IsShort a n x1 y1
as_short a n x y x1 y1 ex ey h = subst (λ (z : ℤ). IsShort a n z y1) (sym ex) (subst (λ (z : ℤ). IsShort a n x z) (sym ey) h)

-- the squared length of a step times u
pub scaled_square : (u : ℕ) (x y : ℤ) → inner (pos u *ℤ x) (pos u *ℤ y) (pos u *ℤ x) (pos u *ℤ y) ≡ pos (u * u) *ℤ inner x y x y
scaled_square u x y = omega (arith, ints, swap4 (pos u) x (pos u) x, swap4 (pos u) y (pos u) y, mul_add (u * u) (x *ℤ x) (y *ℤ y))

-- a step is short at a scale where one that is the same, k n times as long, is short at its scale
pub shrunk : (a n k u : ℕ) (x y : ℤ) → u * n ≤ k → IsShort a n x y → IsShort a k (pos u *ℤ x) (pos u *ℤ y)
shrunk a n k u x y h c =
    let m = squares_are x y in
    let d : m.0 ≤ a * (n * n) = omega (arith, ints, m.1) in
    let e : m.0 * (u * u) ≤ (a * (n * n)) * (u * u) = mul-le-mul_right (u * u) d in
    let g : ((u * n) * (u * n)) * a ≤ (k * k) * a = mul-le-mul_right a (square_le (u * n) k h) in
    omega (arith, ints, scaled_square u x y, ap (λ (z : ℤ). pos (u * u) *ℤ z) m.1, e, g)

-- the same step at another scale: k z = n x
pub rescaled : (a k n : ℕ) (x y z w : ℤ) → 1 ≤ k → pos k *ℤ z ≡ pos n *ℤ x → pos k *ℤ w ≡ pos n *ℤ y → IsShort a k x y → IsShort a n z w
rescaled a k n x y z w one ez ew h =
    let m = squares_are z w in
    let s : IsShort a (n * k) (pos n *ℤ x) (pos n *ℤ y) = shrunk a k (n * k) n x y (omega arith) h in
    let t : IsShort a (n * k) (pos k *ℤ z) (pos k *ℤ w) = as_short a (n * k) (pos n *ℤ x) (pos n *ℤ y) _ _ ez ew s in
    let c = cancel (k * k) m.0 (a * (n * n)) (one_square k one)
    (omega (arith, ints, t, scaled_square k z w, ap (λ (v : ℤ). pos (k * k) *ℤ v) m.1)) in
    omega (arith, ints, m.1)

-- a step back is as long
pub turned_back : (a k : ℕ) (x y : ℤ) → IsShort a k x y → IsShort a k (neg_ℤ x) (neg_ℤ y)
turned_back a k x y h = omega (arith, ints, neg_square x, neg_square y)
  where
    neg_square : (x : ℤ) → neg_ℤ x *ℤ neg_ℤ x ≡ x *ℤ x
    neg_square (pos n) = by_cases n
      where
        by_cases : (n : ℕ) → neg_ℤ (pos n) *ℤ neg_ℤ (pos n) ≡ pos n *ℤ pos n
        by_cases zero = refl
        by_cases (suc n) = omega (arith, ints)
    neg_square (negsuc n) = omega (arith, ints)

pub less_short : (a b k : ℕ) (x y : ℤ) → a ≤ b → IsShort a k x y → IsShort b k x y
less_short a b k x y h s = let m : a * (k * k) ≤ b * (k * k) = mul-le-mul_right (k * k) h in omega (arith, ints)
