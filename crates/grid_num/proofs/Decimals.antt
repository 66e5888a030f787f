-- The digits of small numbers.
use Rattle.std.proofs.Common.{◌≡◌, ℕ, ◌+◌, ◌/◌, ◌%◌, ◌<◌, ◌≤◌, ◌⊎◌, inl, inr, List, [], ◌∷◌, ◌++◌, decimal, refl, sym, ap, ◌∙◌, arith, append_assoc}
use Rattle.std.proofs.lemmas.Fmt.{decimal_digit, decimal_step}
use Rattle.std.proofs.lemmas.Bool.{ne_eqb}
use Rattle.std.proofs.lemmas.List.{append-nil}
use Rattle.grid_num.specs.Written.{last_places, with_point}

decimal_one : (n : ℕ) → n < 10 → decimal n ≡ (48 + n % 10) ∷ []
decimal_one n h = let r : n ≡ n % 10 = omega arith in decimal_digit n h ∙ ap (λ d. (48 + d) ∷ []) r

decimal_two : (n : ℕ) → 10 ≤ n → n < 100 → decimal n ≡ (48 + n / 10 % 10) ∷ (48 + n % 10) ∷ []
decimal_two n low high = decimal_step n low (omega arith) ∙ ap (λ ds. ds ++ (48 + n % 10) ∷ []) (decimal_one (n / 10) (omega arith))

decimal_three : (n : ℕ) → 100 ≤ n → n < 1000 → decimal n ≡ (48 + n / 100) ∷ (48 + n / 10 % 10) ∷ (48 + n % 10) ∷ []
decimal_three n low high =
    let q : n / 10 / 10 % 10 ≡ n / 100 = omega arith in
    decimal_step n (omega arith) (omega arith) ∙ ap (λ ds. ds ++ (48 + n % 10) ∷ []) (decimal_two (n / 10) (omega arith) (omega arith)) ∙ ap (λ d. (48 + d) ∷ (48 + n / 10 % 10) ∷ (48 + n % 10) ∷ []) q

-- a number below 1000 is written digit by digit, with none before the first
pub put_digits : (n : ℕ) (old first second : List ℕ) → n < 1000
    → ((100 ≤ n) × (first ≡ old ++ (48 + n / 100) ∷ [])) ⊎ ((n < 100) × (first ≡ old))
    → ((10 ≤ n) × (second ≡ first ++ (48 + n / 10 % 10) ∷ [])) ⊎ ((n < 10) × (second ≡ first))
    → second ++ (48 + n % 10) ∷ [] ≡ old ++ decimal n
put_digits n old first second small (inl a) (inl b) =
    rw (b.1, a.1, decimal_three n a.0 small) (append_assoc (old ++ (48 + n / 100) ∷ []) ((48 + n / 10 % 10) ∷ []) ((48 + n % 10) ∷ []) ∙ append_assoc old ((48 + n / 100) ∷ []) ((48 + n / 10 % 10) ∷ (48 + n % 10) ∷ []))
put_digits n old first second small (inl a) (inr b) = absurd (omega (arith, a.0, b.0))
put_digits n old first second small (inr a) (inl b) =
    rw (b.1, a.1, decimal_two n b.0 a.0) (append_assoc old ((48 + n / 10 % 10) ∷ []) ((48 + n % 10) ∷ []))
put_digits n old first second small (inr a) (inr b) = rw (b.1, a.1, decimal_one n b.0) refl

pub put_point : (new pointed old : List ℕ) (n : ℕ) → (n ≡ 0 → ⊥) → new ++ [] ≡ pointed ++ last_places 6 n → pointed ≡ old ++ 46 ∷ [] → new ≡ old ++ with_point n
put_point new pointed old n some e p =
    let w : with_point n ≡ 46 ∷ last_places 6 n = rw (ne_eqb n 0 some) refl in
    sym (append-nil new) ∙ e ∙ rw (p, w) (append_assoc old (46 ∷ []) (last_places 6 n))
