-- Rounding by the quotient that is rounded up.
use Rattle.std.proofs.Common.{◌≡◌, refl, ℕ, ◌*◌, ◌≤◌, arith, w64, to_z, of_z, [], ◌∷◌}
use Rattle.std.specs.Prelude.{ℤ, pos, neg_ℤ, ◌-ℤ◌, ◌*ℤ◌, ◌≤ℤ◌}
use Rattle.std.proofs.lemmas.Int.{ints}
use lib.IntN.{*ℤ_comm}
use Rattle.grid_num.specs.declared.Point.{Point}
use Rattle.plane.specs.Narrow.{IsNearZero}
use Rattle.grid_num.proofs.Products.{mul_neg, mul_le_back}
use Rattle.hulls.specs.Cells.{floor_of, ceil_of, points_round}
use Rattle.hulls.proofs.Rounding.{floor_low, floor_law, ceil_law}
use Rattle.hulls.proofs.InCells.{ceil_high}

-- a whole number that is the least with m * d >= a
up_is : (n : ℕ) (a r : ℤ) → 1 ≤ n → a ≤ℤ (r *ℤ pos n) → ((m : ℤ) → a ≤ℤ (m *ℤ pos n) → r ≤ℤ m) → r ≡ ceil_of n a
up_is n a r one h l =
    let below : ceil_of n a ≤ℤ r = (ceil_law n a r one).1 (omega (arith, ints, *ℤ_comm r (pos n))) in
    let above : r ≤ℤ ceil_of n a = l (ceil_of n a) (omega (arith, ints, ceil_high n a one, *ℤ_comm (ceil_of n a) (pos n))) in
    omega (arith, ints)

down_is : (n : ℕ) (z r : ℤ) → 1 ≤ n → neg_ℤ z ≤ℤ (r *ℤ pos n) → ((m : ℤ) → neg_ℤ z ≤ℤ (m *ℤ pos n) → r ≤ℤ m) → neg_ℤ r ≡ floor_of n z
down_is n z r one h l =
    let f = floor_of n z in
    let below : neg_ℤ r ≤ℤ f = (floor_law n z (neg_ℤ r) one).1 (omega (arith, ints, h, mul_neg n r, *ℤ_comm r (pos n))) in
    let above : r ≤ℤ neg_ℤ f = l (neg_ℤ f) (omega (arith, ints, floor_low n z one, mul_neg n f, *ℤ_comm (neg_ℤ f) (pos n))) in
    omega (arith, ints)

pub low_near : (n m : ℕ) (z : ℤ) → 1 ≤ n → IsNearZero (n * m) z → IsNearZero m (floor_of n z)
low_near n m z one h = record {
  low = (floor_law n z (neg_ℤ (pos m)) one).1 (omega (arith, ints, h.low, mul_neg n (pos m)));
  high = mul_le_back n (floor_of n z) (pos m) one (omega (arith, ints, h.high, floor_low n z one));
}

pub high_near : (n m : ℕ) (z : ℤ) → 1 ≤ n → IsNearZero (n * m) z → IsNearZero m (ceil_of n z)
high_near n m z one h = record {
  low = mul_le_back n (neg_ℤ (pos m)) (ceil_of n z) one (omega (arith, ints, h.low, mul_neg n (pos m), ceil_high n z one));
  high = (ceil_law n z (pos m) one).1 (omega (arith, ints, h.high));
}

-- as the code computes them: a is -z, and d is n
pub record IsRounded (v z : ℤ) : Type 0 where
  pub value : z ≡ v
  pub near : IsNearZero 500000000 z

pub code_down : (n : ℕ) (z r a d : ℤ) → 1 ≤ n → IsNearZero (n * 500000000) z → a ≡ neg_ℤ z → d ≡ pos n
    → a ≤ℤ (r *ℤ d) → ((m : ℤ) → a ≤ℤ (m *ℤ d) → r ≤ℤ m) → IsRounded (floor_of n z) (to_z w64 (of_z w64 (pos 0 -ℤ to_z w64 (of_z w64 r))))
code_down n z r a d one h ea ed reaches least =
    let e = down_is n z r one (rw (ea, ed) at reaches) (rw (ea, ed) at least) in
    let f = low_near n 500000000 z one h in
    plain r (floor_of n z) e f
  where
    plain : (r f : ℤ) → neg_ℤ r ≡ f → IsNearZero 500000000 f → IsRounded f (to_z w64 (of_z w64 (pos 0 -ℤ to_z w64 (of_z w64 r))))
    plain r f e h = record { value = omega (arith, ints); near = record { low = omega (arith, ints); high = omega (arith, ints) } }

pub code_up : (n : ℕ) (z r a d : ℤ) → 1 ≤ n → IsNearZero (n * 500000000) z → a ≡ z → d ≡ pos n
    → a ≤ℤ (r *ℤ d) → ((m : ℤ) → a ≤ℤ (m *ℤ d) → r ≤ℤ m) → IsRounded (ceil_of n z) (to_z w64 (of_z w64 r))
code_up n z r a d one h ea ed reaches least =
    let e = up_is n z r one (rw (ea, ed) at reaches) (rw (ea, ed) at least) in
    let f = high_near n 500000000 z one h in
    plain r (ceil_of n z) e f
  where
    plain : (r f : ℤ) → r ≡ f → IsNearZero 500000000 f → IsRounded f (to_z w64 (of_z w64 r))
    plain r f e h = record { value = omega (arith, ints); near = record { low = omega (arith, ints); high = omega (arith, ints) } }

-- ---- the grid points round a place
abbrev point : ℤ → ℤ → Point
point x y = record { x = x; y = y }

point_eq : (x y u v : ℤ) → x ≡ u → y ≡ v → point x y ≡ point u v
point_eq x y u v e f = cc

read_near : (z v : ℤ) → z ≡ v → IsNearZero 500000000 z → to_z w64 (of_z w64 z) ≡ v
read_near z v e h = omega (arith, ints)

pub code_cell : (n : ℕ) (p : Point) (w e a b px py : ℤ) → px ≡ p.x → py ≡ p.y
    → w ≡ floor_of n px → IsNearZero 500000000 w → e ≡ ceil_of n px → IsNearZero 500000000 e
    → a ≡ floor_of n py → IsNearZero 500000000 a → b ≡ ceil_of n py → IsNearZero 500000000 b
    → (point (to_z w64 (of_z w64 w)) (to_z w64 (of_z w64 a))
    ∷ point (to_z w64 (of_z w64 e)) (to_z w64 (of_z w64 a))
    ∷ point (to_z w64 (of_z w64 w)) (to_z w64 (of_z w64 b))
    ∷ point (to_z w64 (of_z w64 e)) (to_z w64 (of_z w64 b))
    ∷ [])
    ≡ points_round n p
unfolding points_round
code_cell n p w e a b px py xe ye we wn ee en ae an be bn =
    let west = read_near w (floor_of n p.x) (rw xe at we) wn in
    let east = read_near e (ceil_of n p.x) (rw xe at ee) en in
    let north = read_near a (floor_of n p.y) (rw ye at ae) an in
    let south = read_near b (ceil_of n p.y) (rw ye at be) bn in
    rw (west, east, north, south) refl
