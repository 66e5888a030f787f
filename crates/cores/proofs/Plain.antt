-- Numbers as the code reads them, and how far products reach.
use Rattle.std.proofs.Common.{◌≡◌, refl, ℕ, ◌≤◌, ◌+◌, ◌*◌, arith, ap, w64, to_z, of_z, FitsSigned, ◌∙◌}
use Rattle.std.specs.Prelude.{ℤ, pos, negsuc, ◌+ℤ◌, ◌-ℤ◌, ◌*ℤ◌, ◌≤ℤ◌, ◌↔◌, IsTrue, Bool, true, false, T}
use Rattle.std.specs.Int.Signed.{le_z}
use Rattle.std.proofs.lemmas.Int.{ints, to_z-of_z}
use Rattle.std.proofs.Math.Nat.{mul-le-mul_right}
use mir.Syntax.{w128}
use mir.Val.{SFits}
use Rattle.touching.specs.Inner.Decision.{inner, cross}
use Rattle.plane.specs.Narrow.{IsNearZero}

abbrev pub r64 : ℤ → ℤ
r64 z = to_z w64 (of_z w64 z)

abbrev pub r128 : ℤ → ℤ
r128 z = to_z w128 (of_z w128 z)

pub same64 : (a : ℤ) → IsNearZero 2400000000 a → r64 a ≡ a
same64 a h = omega (arith, ints)

pub same128 : (a : ℤ) → IsNearZero 11520000000000000000 a → r128 a ≡ a
same128 a h = omega (arith, ints)

-- a product of two small numbers
pub product_near : (m : ℕ) (a b : ℤ) → IsNearZero m a → IsNearZero m b → IsNearZero (m * m) (a *ℤ b)
product_near m a b h k = by_signs a b h k
  where
    most : (n k : ℕ) → n ≤ m → k ≤ m → n * k ≤ m * m
    most n k h g =
        let p : n * k ≤ m * k = mul-le-mul_right k h in
        let q : k * m ≤ m * m = mul-le-mul_right m g in
        omega arith

    by_signs : (a b : ℤ) → IsNearZero m a → IsNearZero m b → IsNearZero (m * m) (a *ℤ b)
    by_signs (pos n) (pos k) h g = let l = most n k (omega (arith, ints, h.high)) (omega (arith, ints, g.high)) in record { low = omega (arith, ints, l); high = omega (arith, ints, l) }
    by_signs (pos n) (negsuc k) h g = let l = most n (k + 1) (omega (arith, ints, h.high)) (omega (arith, ints, g.low)) in record { low = omega (arith, ints, l); high = omega (arith, ints, l) }
    by_signs (negsuc n) (pos k) h g = let l = most (n + 1) k (omega (arith, ints, h.low)) (omega (arith, ints, g.high)) in record { low = omega (arith, ints, l); high = omega (arith, ints, l) }
    by_signs (negsuc n) (negsuc k) h g = let l = most (n + 1) (k + 1) (omega (arith, ints, h.low)) (omega (arith, ints, g.low)) in record { low = omega (arith, ints, l); high = omega (arith, ints, l) }

pub product_range : (a b : ℤ) → IsNearZero 2400000000 a → IsNearZero 2400000000 b → IsNearZero 5760000000000000000 (r128 (r128 (r64 a) *ℤ r128 (r64 b)))
product_range a b h k =
    let p = product_near 2400000000 a b h k in
    rw (read a h, read b k) (record { low = omega (arith, ints, p.low, p.high); high = omega (arith, ints, p.low, p.high) })
  where
    read : (a : ℤ) → IsNearZero 2400000000 a → r128 (r64 a) ≡ a
    read a h = omega (arith, ints)

-- the results of products, and their sums and differences
pub product_value : (p a b : ℤ) → SFits w64 a → SFits w64 b → p ≡ r64 a *ℤ r64 b → p ≡ a *ℤ b
product_value p a b f g e = e ∙ ap (λ (z : ℤ). z *ℤ r64 b) (to_z-of_z w64 a f) ∙ ap (λ (z : ℤ). a *ℤ z) (to_z-of_z w64 b g)

pub sum_value : (p q x y : ℤ) → IsNearZero 5760000000000000000 p → IsNearZero 5760000000000000000 q → p ≡ x → q ≡ y → r128 (r128 p +ℤ r128 q) ≡ x +ℤ y
sum_value p q x y h k e f = omega (arith, ints, h.low, h.high, k.low, k.high)

pub sum_range : (p q : ℤ) → IsNearZero 5760000000000000000 p → IsNearZero 5760000000000000000 q → IsNearZero 11520000000000000000 (r128 (r128 p +ℤ r128 q))
sum_range p q h k = record { low = omega (arith, ints, h.low, h.high, k.low, k.high); high = omega (arith, ints, h.low, h.high, k.low, k.high) }

pub difference_value : (p q x y : ℤ) → IsNearZero 5760000000000000000 p → IsNearZero 5760000000000000000 q → p ≡ x → q ≡ y → r128 (r128 p -ℤ r128 q) ≡ x -ℤ y
difference_value p q x y h k e f = omega (arith, ints, h.low, h.high, k.low, k.high)

pub difference_range : (p q : ℤ) → IsNearZero 5760000000000000000 p → IsNearZero 5760000000000000000 q → IsNearZero 11520000000000000000 (r128 (r128 p -ℤ r128 q))
difference_range p q h k = record { low = omega (arith, ints, h.low, h.high, k.low, k.high); high = omega (arith, ints, h.low, h.high, k.low, k.high) }

-- a product in the words of the decision, as it is read again
pub inner_read : (f ax ay bx by : ℤ) → SFits w64 ax → SFits w64 ay → SFits w64 bx → SFits w64 by → IsNearZero 11520000000000000000 f
    → f ≡ inner (r64 ax) (r64 ay) (r64 bx) (r64 by) → r128 f ≡ inner ax ay bx by
inner_read f ax ay bx by p q r s h e =
    same128 f h ∙ e ∙ ap (λ (z : ℤ). inner z (r64 ay) (r64 bx) (r64 by)) (to_z-of_z w64 ax p) ∙ ap (λ (z : ℤ). inner ax z (r64 bx) (r64 by)) (to_z-of_z w64 ay q)
    ∙ ap (λ (z : ℤ). inner ax ay z (r64 by)) (to_z-of_z w64 bx r) ∙ ap (λ (z : ℤ). inner ax ay bx z) (to_z-of_z w64 by s)

pub cross_read : (f ax ay bx by : ℤ) → SFits w64 ax → SFits w64 ay → SFits w64 bx → SFits w64 by → IsNearZero 11520000000000000000 f
    → f ≡ cross (r64 ax) (r64 ay) (r64 bx) (r64 by) → r128 f ≡ cross ax ay bx by
cross_read f ax ay bx by p q r s h e =
    same128 f h ∙ e ∙ ap (λ (z : ℤ). cross z (r64 ay) (r64 bx) (r64 by)) (to_z-of_z w64 ax p) ∙ ap (λ (z : ℤ). cross ax z (r64 bx) (r64 by)) (to_z-of_z w64 ay q)
    ∙ ap (λ (z : ℤ). cross ax ay z (r64 by)) (to_z-of_z w64 bx r) ∙ ap (λ (z : ℤ). cross ax ay bx z) (to_z-of_z w64 by s)

-- a way between two places, as it is read again
pub offset_read : (r from to : ℤ) → IsNearZero 1200000000 from → IsNearZero 1200000000 to → r ≡ r64 to -ℤ r64 from → r64 r ≡ to -ℤ from
offset_read r from to h k e = omega (arith, ints, h.low, h.high, k.low, k.high, e)

-- the square of a cross product still fits
pub square_fits : (k : ℤ) → IsNearZero 11520000000000000000 k → FitsSigned w128 (r128 k *ℤ r128 k)
square_fits k h =
    let p = product_near 11520000000000000000 k k h h in
    rw (same128 k h) (omega (arith, ints, p.low, p.high))

pub square_value : (k : ℤ) → IsNearZero 11520000000000000000 k → r128 (r128 k *ℤ r128 k) ≡ k *ℤ k
square_value k h =
    let p = product_near 11520000000000000000 k k h h in
    rw (same128 k h) (omega (arith, ints, p.low, p.high))

pub reach_value : (a : ℕ) (l : ℤ) → a ≤ 160000000000000000 → IsNearZero 11520000000000000000 l → r128 (to_z w128 a *ℤ r128 l) ≡ pos a *ℤ l
reach_value a l h k =
    let p = product_near 11520000000000000000 (pos a) l (record { low = omega (arith, ints); high = omega (arith, ints) }) k in
    rw (same128 l k, whole a h) (omega (arith, ints, p.low, p.high))
  where
    whole : (a : ℕ) → a ≤ 160000000000000000 → to_z w128 a ≡ pos a
    whole a h = omega (arith, ints)

-- sums and differences of small numbers
pub plain_add : (a b : ℤ) → IsNearZero 2400000000 a → IsNearZero 2400000000 b → r64 (r64 a +ℤ r64 b) ≡ a +ℤ b
plain_add a b h k = omega (arith, ints, h.low, h.high, k.low, k.high)

pub plain_sub : (a b : ℤ) → IsNearZero 2400000000 a → IsNearZero 2400000000 b → r64 (r64 a -ℤ r64 b) ≡ a -ℤ b
plain_sub a b h k = omega (arith, ints, h.low, h.high, k.low, k.high)

pub add_fits : (a b : ℤ) → IsNearZero 2400000000 a → IsNearZero 2400000000 b → FitsSigned w64 (r64 a +ℤ r64 b)
add_fits a b h k = omega (arith, ints, h.low, h.high, k.low, k.high)

-- bounds of steps, and the lengths that the tests of sides take
pub near_read : (n m : ℕ) (a : ℤ) → n ≤ m → m ≤ 14400000000 → IsNearZero n a → IsNearZero m (r64 a)
near_read n m a l w h = record { low = omega (arith, ints, h.low, h.high); high = omega (arith, ints, h.low, h.high) }

pub wide_same : (a : ℤ) → IsNearZero 4800000000 a → r64 a ≡ a
wide_same a h = omega (arith, ints, h.low, h.high)

pub wide_add : (a b : ℤ) → IsNearZero 4800000000 a → IsNearZero 4800000000 b → r64 (r64 a +ℤ r64 b) ≡ a +ℤ b
wide_add a b h k = omega (arith, ints, h.low, h.high, k.low, k.high)

pub wide_sub : (a b : ℤ) → IsNearZero 4800000000 a → IsNearZero 4800000000 b → r64 (r64 a -ℤ r64 b) ≡ a -ℤ b
wide_sub a b h k = omega (arith, ints, h.low, h.high, k.low, k.high)

pub beyond_read : (r a b : ℤ) → IsNearZero 2400000000 a → IsNearZero 2400000000 b → r ≡ r64 a -ℤ r64 b → r64 r ≡ a -ℤ b
beyond_read r a b h k e = omega (arith, ints, h.low, h.high, k.low, k.high, e)

pub twice_less_read : (r a b : ℤ) → IsNearZero 4800000000 a → IsNearZero 4800000000 b → r ≡ r64 a +ℤ r64 a -ℤ r64 b → r64 r ≡ a +ℤ a -ℤ b
twice_less_read r a b h k e = omega (arith, ints, h.low, h.high, k.low, k.high, e)

pub less_twice_read : (r a b : ℤ) → IsNearZero 4800000000 a → IsNearZero 4800000000 b → r ≡ r64 a -ℤ (r64 b +ℤ r64 b) → r64 r ≡ a -ℤ (b +ℤ b)
less_twice_read r a b h k e = omega (arith, ints, h.low, h.high, k.low, k.high, e)

pub twice_more_read : (r a b : ℤ) → IsNearZero 4800000000 a → IsNearZero 4800000000 b → r ≡ r64 a +ℤ r64 a +ℤ r64 b → r64 r ≡ a +ℤ a +ℤ b
twice_more_read r a b h k e = omega (arith, ints, h.low, h.high, k.low, k.high, e)

-- the squared length to a place
pub place_le : (a : ℕ) (p q x y : ℤ) → a ≤ 320000000000000000 → pos 0 ≤ℤ p → p ≤ℤ pos 207360000000000000000 → pos 0 ≤ℤ q → q ≤ℤ pos 207360000000000000000
    → p ≡ x → q ≡ y → IsTrue (le_z (r128 (r128 p +ℤ r128 q)) (to_z w128 a)) ↔ ((x +ℤ y) ≤ℤ pos a)
place_le a p q x y ha pl ph ql qh ep eq = (λ z. omega (arith, ints, z, ep, eq, pl, ph, ql, qh, ha), λ h. is_true _ (fits h).le)
  where
    is_true : (b : Bool) → T b → b ≡ true
    is_true true h = refl
    is_true false h = absurd h

    fits : (x +ℤ y) ≤ℤ pos a → r128 (r128 p +ℤ r128 q) ≤ℤ to_z w128 a
    fits h = omega (arith, ints, h, ep, eq, pl, ph, ql, qh, ha)
