-- The least multiple that reaches a number.
use Rattle.std.proofs.Common.{◌≡◌, ℕ, arith}
use Rattle.std.specs.Prelude.{ℤ, pos, negsuc, ◌+ℤ◌, ◌-ℤ◌, ◌*ℤ◌, ◌≤ℤ◌, ◌<ℤ◌, neg_ℤ}
use Rattle.std.proofs.lemmas.Int.{ints}
use lib.IntN.{*ℤ_comm}
use Rattle.grid_num.proofs.Products.{mul_lt_back, mul_le, mul_sub}

cancel : (d q m : ℤ) → pos 0 <ℤ d → (q *ℤ d) <ℤ (m *ℤ d) → q <ℤ m
cancel (pos n) q m h l = mul_lt_back n q m (omega (arith, ints, *ℤ_comm q (pos n), *ℤ_comm m (pos n)))
cancel (negsuc n) q m h l = omega (arith, ints)

pub ceil_then : (a d q r m : ℤ) → pos 0 <ℤ d → q *ℤ d +ℤ r ≡ a → pos 0 <ℤ r → a ≤ℤ (m *ℤ d) → (q +ℤ pos 1) ≤ℤ m
ceil_then a d q r m h e p l = let less : q <ℤ m = cancel d q m h (omega (arith, ints)) in omega (arith, ints)

minus_one : (d q : ℤ) → pos 0 <ℤ d → (q -ℤ pos 1) *ℤ d ≡ q *ℤ d -ℤ d
minus_one (pos n) q h = omega (arith, ints, *ℤ_comm (q -ℤ pos 1) (pos n), mul_sub n q (pos 1), *ℤ_comm q (pos n))
minus_one (negsuc n) q h = absurd (omega (arith, ints))

pub ceil_else : (a d q r m : ℤ) → pos 0 <ℤ d → q *ℤ d +ℤ r ≡ a → neg_ℤ d <ℤ r → a ≤ℤ (m *ℤ d) → q ≤ℤ m
ceil_else a d q r m h e p l =
    let less : (q -ℤ pos 1) <ℤ m = cancel d (q -ℤ pos 1) m h (omega (arith, ints, minus_one d q h)) in
    omega (arith, ints)

-- the next number after the quotient is no greater than any bound of a that is at least 0
pub ceil_then_fits : (a d q r : ℤ) (n : ℕ) → pos 0 <ℤ d → q *ℤ d +ℤ r ≡ a → pos 0 <ℤ r → a ≤ℤ pos n → (q +ℤ pos 1) ≤ℤ pos n
ceil_then_fits a d q r n h e p l =
    let one : pos 1 ≤ℤ d = omega (arith, ints) in
    ceil_then a d q r (pos n) h e p (omega (arith, ints, mul_le n (pos 1) d one))
