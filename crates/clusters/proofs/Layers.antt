-- Two sets of layers have a common one exactly where some bit is in both.
use Rattle.std.proofs.Common.{◌≡◌, sym, ◌∙◌, ap, ℕ, ◌*◌, ◌^◌, ◌<◌, ◌≤◌, arith, inl, inr, w32, true, not}
use Rattle.std.specs.Prelude.{◌==◌, ◌↔◌, IsTrue, bit_and, min}
use Rattle.std.specs.Int.{bit_at}
use Rattle.std.proofs.lemmas.Bool.{cases_lt}
use Rattle.std.proofs.lemmas.Bool.Decides.{nat_tests}
use Rattle.std.proofs.lemmas.Nat.{pow_pos, and_le_l}
use Rattle.std.proofs.lemmas.Nat.Bits.{bit_at_and, bit_at-lt, bit_at-zero, and_pow, bit_at-trailing_zeros}
use Rattle.std.specs.Int.{trailing_zeros}
use Rattle.board_language.specs.Copper.{has_layer}
use Rattle.clusters.specs.Inner.Patches.{HaveCommonLayer}

some : (n : ℕ) → 1 ≤ n → not (n == 0) ≡ true
some n l = grind (arith, nat_tests)

some_back : (n : ℕ) → not (n == 0) ≡ true → 1 ≤ n
some_back n e = grind (arith, nat_tests)

has_bit : (n l : ℕ) → bit_at n l ≡ 1 → has_layer n l ≡ true
has_bit n l e =
    let a : bit_and n (2 ^ l) ≡ 1 * 2 ^ l = and_pow n l ∙ ap (λ m. m * 2 ^ l) e in
    some (bit_and n (2 ^ l)) (let p = pow_pos l in omega (arith, a, p))

none_of_bit : (n l : ℕ) → bit_at n l ≡ 0 → bit_and n (2 ^ l) ≡ 0
none_of_bit n l e = and_pow n l ∙ ap (λ m. m * 2 ^ l) e ∙ none
  where
    none : 0 * 2 ^ l ≡ 0
    none = omega arith

bit_of : (n l : ℕ) → has_layer n l ≡ true → bit_at n l ≡ 1
bit_of n l e =
    let a = some_back (bit_and n (2 ^ l)) e in
    let b = bit_at-lt n l in
    elim (cases_lt (bit_at n l) 1) [
      | inl z ↦ (let c = none_of_bit n l (omega (arith, z)) in absurd (omega (arith, a, c)))
      | inr z ↦ omega (arith, b, z)
    ]

both_bits : (a b : ℕ) → min a b ≡ 1 → a < 2 → b < 2 → (a ≡ 1) × (b ≡ 1)
both_bits a b e l m = (omega (arith, e, l, m), omega (arith, e, l, m))

pub common_layer : (a b : ℕ) → a < 2 ^ 32 → IsTrue (not (bit_and a b == 0)) ↔ HaveCommonLayer a b
common_layer a b l = (
  λ t.
      let p = some_back (bit_and a b) t in
      let u : bit_and a b < 2 ^ 32 = (let x = and_le_l a b in omega (arith, x, l)) in
      let k = trailing_zeros w32 (bit_and a b) in
      let h = (bit_at-trailing_zeros w32 (bit_and a b) p u).1 in
      let r = both_bits (bit_at a k) (bit_at b k) (sym (bit_at_and a b k) ∙ h) (bit_at-lt a k) (bit_at-lt b k) in
      (k, has_bit a k r.0, has_bit b k r.1),
  λ (k, p, q).
      let x = bit_of a k p in
      let y = bit_of b k q in
      let z = bit_at_and a b k in
      elim (cases_lt (bit_and a b) 1) [
        | inl e ↦ (let e0 : bit_and a b ≡ 0 = omega (arith, e) in let g = ap (λ (n : ℕ). bit_at n k) e0 ∙ bit_at-zero k in absurd (omega (arith, x, y, z, g)))
        | inr e ↦ some (bit_and a b) e
      ],
)
