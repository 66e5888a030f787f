-- The root of 2 a a, rounded up.
use Rattle.std.proofs.Common.{◌≡◌, ℕ, zero, suc, ◌+◌, ◌≤◌, ◌<◌, ◌*◌, inl, inr, arith}
use Rattle.std.specs.Prelude.{nat_le, if◌then◌else◌}
use Rattle.std.proofs.lemmas.Bool.{cases_lt}
use Rattle.std.proofs.lemmas.Bool.Decides.{nat_tests}
use Rattle.std.proofs.Math.Nat.{mul-le-mul}
use Rattle.std.proofs.lemmas.Nat.{mul-lt}
use Rattle.grid_num.specs.Roots.{least_root, up2_of, IsUp2}

pub square_le : (m n : ℕ) → m ≤ n → m * m ≤ n * n
square_le m n h = mul-le-mul h h

pick_reaches : (t r n : ℕ) → t ≤ n * n → t ≤ (if nat_le t (r * r) then r else n) * (if nat_le t (r * r) then r else n)
pick_reaches t r n h = grind (arith, nat_tests)

reaches : (t n : ℕ) → t ≤ n * n → t ≤ least_root t n * least_root t n
reaches t zero h = h
reaches t (suc n) h = pick_reaches t (least_root t n) (suc n) h

pick_least : (t r n m : ℕ) → r ≤ m → (m < n → t ≤ r * r) → (if nat_le t (r * r) then r else n) ≤ m
pick_least t r n m h k = grind (arith, nat_tests)

least : (t n m : ℕ) → t ≤ m * m → least_root t n ≤ m
least t zero m h = omega arith
least t (suc n) m h = pick_least t (least_root t n) (suc n) m (least t n m h)
    (λ l. let below : m * m ≤ n * n = square_le m n (omega arith) in reaches t n (omega arith))

pub up2_reaches : (a : ℕ) → 2 * (a * a) ≤ up2_of a * up2_of a
unfolding up2_of
up2_reaches a = reaches (2 * (a * a)) (2 * a) (omega arith)

pub up2_least : (a m : ℕ) → 2 * (a * a) ≤ m * m → up2_of a ≤ m
unfolding up2_of
up2_least a m h = least (2 * (a * a)) (2 * a) m h

pub up2_law : (a : ℕ) → IsUp2 a (up2_of a)
up2_law a = record { reaches = up2_reaches a; least = up2_least a }

pub up2_le_double : (a : ℕ) → up2_of a ≤ 2 * a
up2_le_double a = up2_least a (2 * a) (omega arith)

pub lt_up2 : (a : ℕ) → 1 ≤ a → a < up2_of a
lt_up2 a h = elim (cases_lt a (up2_of a)) [ inl l ↦ l | inr l ↦ absurd (contra l) ]
  where
    contra : up2_of a ≤ a → ⊥
    contra l =
        let top : up2_of a * up2_of a ≤ a * a = square_le (up2_of a) a l in
        let one : 1 * 1 ≤ a * a = square_le 1 a h in
        omega (arith, up2_reaches a)

pub up2_exact : (a r : ℕ) → r * r ≡ 2 * (a * a) → r ≡ up2_of a
up2_exact a r h =
    let top : up2_of a ≤ r = up2_least a r (omega arith) in
    elim (cases_lt (up2_of a) r) [
      | inl l ↦ let s : up2_of a * up2_of a < r * r = mul-lt (up2_of a) (up2_of a) r r l l in absurd (omega (arith, up2_reaches a))
      | inr l ↦ omega arith
    ]

pub up2_above : (a r : ℕ) → r * r < 2 * (a * a) → 2 * (a * a) ≤ (r + 1) * (r + 1) → r + 1 ≡ up2_of a
up2_above a r h k =
    let top : up2_of a ≤ r + 1 = up2_least a (r + 1) k in
    elim (cases_lt r (up2_of a)) [
      | inl l ↦ omega arith
      | inr l ↦ let s : up2_of a * up2_of a ≤ r * r = square_le (up2_of a) r l in absurd (omega (arith, up2_reaches a))
    ]

pub le_up2 : (a : ℕ) → a ≤ up2_of a
le_up2 zero = omega arith
le_up2 (suc a) = let l = lt_up2 (suc a) (omega arith) in omega arith
