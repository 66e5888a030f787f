-- How far products reach, and how the code reads them.
use Rattle.std.proofs.Common.{◌≡◌, ◌∙◌, ap, ℕ, ◌≤◌, ◌+◌, ◌*◌, arith, w64, to_z, of_z}
use Rattle.std.specs.Prelude.{ℤ, pos, negsuc, ◌+ℤ◌, ◌*ℤ◌}
use Rattle.std.proofs.lemmas.Int.{ints}
use mir.Syntax.{w128}
use Rattle.plane.specs.Narrow.{IsNearZero}
use Rattle.grid_num.specs.Length.{IsInRange}
use Rattle.cores.proofs.Plain.{product_near}

pub product_range : (a b : ℤ) → IsNearZero 1000000000 a → IsNearZero 1000000000 b
    → IsNearZero 1000000000000000000 (to_z w128 (of_z w128 (to_z w128 (of_z w128 (to_z w64 (of_z w64 a))) *ℤ to_z w128 (of_z w128 (to_z w64 (of_z w64 b))))))
product_range a b h k =
    let p = product_near 1000000000 a b h k in
    rw (read a h, read b k) (record { low = omega (arith, ints, p.low, p.high); high = omega (arith, ints, p.low, p.high) })
  where
    read : (a : ℤ) → IsNearZero 1000000000 a → to_z w128 (of_z w128 (to_z w64 (of_z w64 a))) ≡ a
    read a h = omega (arith, ints)

-- a sum of two products, as the code reads it
pub sum_is : (p q x y : ℤ) → IsNearZero 1000000000000000000 p → IsNearZero 1000000000000000000 q → p ≡ x → q ≡ y
    → to_z w128 (of_z w128 (to_z w128 (of_z w128 p) +ℤ to_z w128 (of_z w128 q))) ≡ x +ℤ y
sum_is p q x y h k e f = omega (arith, ints, h.low, h.high, k.low, k.high, e, f)

pub read64 : (a : ℤ) → IsNearZero 1000000000 a → to_z w64 (of_z w64 a) ≡ a
read64 a h = omega (arith, ints, h.low, h.high)

pub read_place : (a : ℤ) → IsInRange a → to_z w64 (of_z w64 a) ≡ a
read_place a h = omega (arith, ints, h.0, h.1)

-- the sum of products of numbers as the code reads them
pub read_inner : (i p q r s : ℤ) → IsNearZero 1000000000 p → IsNearZero 1000000000 q → IsNearZero 1000000000 r → IsNearZero 1000000000 s
    → i ≡ to_z w64 (of_z w64 p) *ℤ to_z w64 (of_z w64 r) +ℤ to_z w64 (of_z w64 q) *ℤ to_z w64 (of_z w64 s) → i ≡ p *ℤ r +ℤ q *ℤ s
read_inner i p q r s hp hq hr hs e = rw (← read64 p hp, ← read64 q hq, ← read64 r hr, ← read64 s hs) e

pub same_inner : (p q r s p' q' r' s' : ℤ) → p ≡ p' → q ≡ q' → r ≡ r' → s ≡ s' → p *ℤ r +ℤ q *ℤ s ≡ p' *ℤ r' +ℤ q' *ℤ s'
same_inner p q r s p' q' r' s' e f g h = ap (λ z. z *ℤ r +ℤ q *ℤ s) e ∙ ap (λ z. p' *ℤ r +ℤ z *ℤ s) f ∙ ap (λ z. p' *ℤ z +ℤ q' *ℤ s) g ∙ ap (λ z. p' *ℤ r' +ℤ q' *ℤ z) h

pub sum_range : (p q : ℤ) → IsNearZero 1000000000000000000 p → IsNearZero 1000000000000000000 q
    → IsNearZero 2000000000000000000 (to_z w128 (of_z w128 (to_z w128 (of_z w128 p) +ℤ to_z w128 (of_z w128 q))))
sum_range p q h k = record { low = omega (arith, ints, h.low, h.high, k.low, k.high); high = omega (arith, ints, h.low, h.high, k.low, k.high) }

pub read128 : (z : ℤ) → IsNearZero 2000000000000000000 z → to_z w128 (of_z w128 z) ≡ z
read128 z h = omega (arith, ints, h.low, h.high)
