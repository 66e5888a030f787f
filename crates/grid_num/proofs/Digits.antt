-- Digits and the number that they spell: each size of digits has one list for a number.
use Rattle.std.proofs.Common.{◌≡◌, ℕ, suc, ◌+◌, ◌-◌, ◌*◌, ◌^◌, ◌/◌, ◌%◌, ◌<◌, ◌≤◌, ◌⊎◌, inl, inr, List, [], ◌∷◌, ◌++◌, length, decimal, refl, sym, ap, ◌∙◌, subst, arith, All, length-append}
use Rattle.std.proofs.Math.Nat.{pow-succ'}
use Rattle.std.specs.Char.{IsAsciiDigit}
use Rattle.std.proofs.lemmas.Fmt.{decimal_by_steps, length-decimal-le}
use Rattle.std.proofs.lemmas.Bool.{cases_lt}
use Rattle.std.proofs.lemmas.Nat.{same_from_place, mul-le}
use Rattle.std.proofs.lemmas.List.Elements.{All-head, All-tail, All-nil, All-cons, All-push}
use Rattle.grid_num.specs.Spelling.{number, number_after}
use Rattle.grid_num.proofs.Capped.{number_append}

weighed : (a b p q : ℕ) → q ≡ 10 * p → (10 * a + b) * p ≡ a * q + b * p
weighed a b p q e = rw e (omega arith)

-- the digits before stand so many places higher
pub number_split : (n : ℕ) (ds : List ℕ) → number_after n ds ≡ n * 10 ^ length ds + number ds
number_split n [] = omega arith
number_split n (d ∷ ds) =
    let p = 10 ^ length ds in
    let up = number_split (10 * n + (d - 48)) ds in
    let down = number_split (10 * 0 + (d - 48)) ds in
    let w = weighed n (d - 48) p (10 ^ suc (length ds)) (pow-succ' 10 (length ds)) in
    let z = weighed 0 (d - 48) p (10 ^ suc (length ds)) (pow-succ' 10 (length ds)) in
    omega (arith, up, down, w, z)

-- the first digit stands for itself at its place
pub number_cons : (d : ℕ) (ds : List ℕ) → number (d ∷ ds) ≡ (d - 48) * 10 ^ length ds + number ds
number_cons d ds =
    let z : 10 * 0 + (d - 48) ≡ d - 48 = omega arith in
    ap (λ n. number_after n ds) z ∙ number_split (d - 48) ds

below_next : (d p r q : ℕ) → d < 10 → r < p → q ≡ 10 * p → d * p + r < q
below_next d p r q h k e =
    let m : suc d * p ≤ 10 * p = mul-le (suc d) p 10 p (omega arith) (omega arith) in
    omega (arith, m, e)

pub number_below : (ds : List ℕ) → All IsAsciiDigit ds → number ds < 10 ^ length ds
number_below [] h = omega arith
number_below (d ∷ ds) h =
    let digit : IsAsciiDigit d = All-head IsAsciiDigit d ds h in
    let n = number_below ds (All-tail IsAsciiDigit d ds h) in
    let b = below_next (d - 48) (10 ^ length ds) (number ds) (10 ^ suc (length ds)) (omega (arith, digit)) n (pow-succ' 10 (length ds)) in
    omega (arith, b, number_cons d ds)

pub same_digits : (xs ys : List ℕ) → All IsAsciiDigit xs → All IsAsciiDigit ys → length xs ≡ length ys → number xs ≡ number ys → xs ≡ ys
same_digits [] [] h k l e = refl
same_digits [] (y ∷ ys) h k l e = absurd (omega (arith, l))
same_digits (x ∷ xs) [] h k l e = absurd (omega (arith, l))
same_digits (x ∷ xs) (y ∷ ys) h k l e =
    let hx : IsAsciiDigit x = All-head IsAsciiDigit x xs h in
    let hy : IsAsciiDigit y = All-head IsAsciiDigit y ys k in
    let dx = All-tail IsAsciiDigit x xs h in
    let dy = All-tail IsAsciiDigit y ys k in
    let len : length xs ≡ length ys = omega (arith, l) in
    let bx = number_below xs dx in
    let by : number ys < 10 ^ length xs = rw len (number_below ys dy) in
    let right : number (y ∷ ys) ≡ (y - 48) * 10 ^ length xs + number ys = rw len (number_cons y ys) in
    let parts = same_from_place (x - 48) (number xs) (y - 48) (number ys) (10 ^ length xs) bx by (sym (number_cons x xs) ∙ e ∙ right) in
    let first : x ≡ y = omega (arith, parts.0, hx, hy) in
    let others : xs ≡ ys = same_digits xs ys dx dy len parts.1 in
    cc

pub number_decimal : (n : ℕ) → n < 2 ^ 64 → number (decimal n) ≡ n
number_decimal n small = decimal_by_steps (λ m ds. number ds ≡ m) one more n small
  where
    one : (m : ℕ) → m < 10 → number ((48 + m) ∷ []) ≡ m
    one m h = omega arith

    more : (m : ℕ) (ds : List ℕ) → 10 ≤ m → number ds ≡ m / 10 → number (ds ++ ((48 + m % 10) ∷ [])) ≡ m
    more m ds h e = number_append 0 ds ((48 + m % 10) ∷ []) ∙ rw e (omega arith)

pub decimal_digits : (n : ℕ) → n < 2 ^ 64 → All IsAsciiDigit (decimal n)
decimal_digits n small = decimal_by_steps (λ m ds. All IsAsciiDigit ds) one more n small
  where
    one : (m : ℕ) → m < 10 → All IsAsciiDigit ((48 + m) ∷ [])
    one m h = All-cons IsAsciiDigit (48 + m) [] (omega arith, omega arith) (All-nil IsAsciiDigit)

    more : (m : ℕ) (ds : List ℕ) → 10 ≤ m → All IsAsciiDigit ds → All IsAsciiDigit (ds ++ ((48 + m % 10) ∷ []))
    more m ds h k = All-push IsAsciiDigit ds (48 + m % 10) k (omega arith, omega arith)

pub decimal_some : (n : ℕ) → n < 2 ^ 64 → 0 < length (decimal n)
decimal_some n small = decimal_by_steps (λ m ds. 0 < length ds) (λ m h. omega arith) (λ m ds h k. omega (arith, length-append ds ((48 + m % 10) ∷ []))) n small

-- no digits spell a number shorter than it is written
pub decimal_shortest : (n : ℕ) (ds : List ℕ) → n < 2 ^ 64 → All IsAsciiDigit ds → 0 < length ds → number ds ≡ n → (length (decimal n) < length ds) ⊎ (ds ≡ decimal n)
decimal_shortest n ds small digits some e =
    let most : length (decimal n) ≤ length ds = length-decimal-le (length ds) n some (subst (λ m. m < 10 ^ length ds) e (number_below ds digits)) small in
    elim (cases_lt (length (decimal n)) (length ds)) [
      | inl less ↦ inl less
      | inr not_less ↦ inr (same_digits ds (decimal n) digits (decimal_digits n small) (omega (arith, most, not_less)) (e ∙ sym (number_decimal n small)))
    ]
