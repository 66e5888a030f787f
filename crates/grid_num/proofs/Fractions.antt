-- The places behind the point.
use Rattle.std.proofs.Common.{◌≡◌, ℕ, zero, suc, ◌+◌, ◌-◌, ◌*◌, ◌^◌, ◌/◌, ◌%◌, ◌<◌, ◌≤◌, ◌⊎◌, inl, inr, List, [], ◌∷◌, length, refl, sym, ap, ◌∙◌, subst, arith, All}
use Rattle.std.proofs.Math.Nat.{pow-succ'}
use Rattle.std.specs.Char.{IsAsciiDigit}
use Rattle.std.proofs.lemmas.Nat.{div_below, div-add-mod', div-mul-add, mod-mul-add, mod_below}
use Rattle.std.proofs.lemmas.Bool.{ne_eqb}
use Rattle.std.proofs.lemmas.List.{drop_all}
use Rattle.std.proofs.lemmas.List.Elements.{All-head, All-tail, All-nil, All-cons}
use Rattle.grid_num.specs.Spelling.{number}
use Rattle.grid_num.specs.Length.{places, IsWholeNm}
use Rattle.grid_num.specs.Written.{last_places}
use Rattle.grid_num.proofs.Digits.{number_cons, number_below}

-- the first k places, where one that isn't written is 0
abbrev pub padded : ℕ → List ℕ → List ℕ
padded zero fraction = []
padded (suc k) [] = 48 ∷ padded k []
padded (suc k) (d ∷ ds) = d ∷ padded k ds

pub places_padded : (fraction : List ℕ) → places fraction ≡ padded 6 fraction
places_padded [] = refl
places_padded (a ∷ []) = refl
places_padded (a ∷ b ∷ []) = refl
places_padded (a ∷ b ∷ c ∷ []) = refl
places_padded (a ∷ b ∷ c ∷ d ∷ []) = refl
places_padded (a ∷ b ∷ c ∷ d ∷ e ∷ []) = refl
places_padded (a ∷ b ∷ c ∷ d ∷ e ∷ f ∷ rest) = refl

pub length-padded : (k : ℕ) (fraction : List ℕ) → length (padded k fraction) ≡ k
length-padded zero fraction = refl
length-padded (suc k) [] = ap suc (length-padded k [])
length-padded (suc k) (d ∷ ds) = ap suc (length-padded k ds)

pub padded_digits : (k : ℕ) (fraction : List ℕ) → All IsAsciiDigit fraction → All IsAsciiDigit (padded k fraction)
padded_digits zero fraction h = All-nil IsAsciiDigit
padded_digits (suc k) [] h = All-cons IsAsciiDigit 48 (padded k []) (omega arith, omega arith) (padded_digits k [] h)
padded_digits (suc k) (d ∷ ds) h = All-cons IsAsciiDigit d (padded k ds) (All-head IsAsciiDigit d ds h) (padded_digits k ds (All-tail IsAsciiDigit d ds h))

pub padded_below : (k : ℕ) (fraction : List ℕ) → All IsAsciiDigit fraction → number (padded k fraction) < 10 ^ k
padded_below k fraction h = subst (λ n. number (padded k fraction) < 10 ^ n) (length-padded k fraction) (number_below (padded k fraction) (padded_digits k fraction h))

padded_none : (k : ℕ) → number (padded k []) ≡ 0
padded_none zero = refl
padded_none (suc k) = padded_none k

padded_cons : (k d : ℕ) (ds : List ℕ) → number (padded (suc k) (d ∷ ds)) ≡ (d - 48) * 10 ^ k + number (padded k ds)
padded_cons k d ds = number_cons d (padded k ds) ∙ ap (λ n. (d - 48) * 10 ^ n + number (padded k ds)) (length-padded k ds)

pow_some : (k : ℕ) → 0 < 10 ^ k
pow_some zero = omega arith
pow_some (suc k) = omega (arith, pow-succ' 10 k, pow_some k)

digit_below : (k n : ℕ) → n < 10 ^ suc k → n / 10 ^ k < 10
digit_below k n h = div_below n (10 ^ k) 10 (pow_some k) (omega (arith, h, pow-succ' 10 k))

rest_below : (k n : ℕ) → n % 10 ^ k < 10 ^ k
rest_below k n = mod_below n (10 ^ k) (pow_some k)

pub last_step : (k n : ℕ) → last_places (suc k) (suc n) ≡ (48 + suc n / 10 ^ k) ∷ last_places k (suc n % 10 ^ k)
last_step k n = rw (ne_eqb (suc n) 0 (λ e. omega (arith, e))) refl

pub last_digits : (k n : ℕ) → n < 10 ^ k → All IsAsciiDigit (last_places k n)
last_digits zero n h = All-nil IsAsciiDigit
last_digits (suc k) zero h = All-nil IsAsciiDigit
last_digits (suc k) (suc n) h =
    let d = digit_below k (suc n) h in
    rw last_step (All-cons IsAsciiDigit (48 + suc n / 10 ^ k) (last_places k (suc n % 10 ^ k)) (omega arith, omega (arith, d)) (last_digits k (suc n % 10 ^ k) (rest_below k (suc n))))

pub length-last_places : (k n : ℕ) → length (last_places k n) ≤ k
length-last_places zero n = omega arith
length-last_places (suc k) zero = omega arith
length-last_places (suc k) (suc n) = rw last_step (omega (arith, length-last_places k (suc n % 10 ^ k)))

pub last_whole : (n : ℕ) → IsWholeNm (last_places 6 n)
last_whole n = subst (All (λ digit. digit ≡ 48)) (sym (drop_all 6 (last_places 6 n) (length-last_places 6 n))) (All-nil (λ digit. digit ≡ 48))

-- the written places spell what they were written for
pub number_last : (k n : ℕ) → n < 10 ^ k → number (padded k (last_places k n)) ≡ n
number_last zero n h = omega (arith, h)
number_last (suc k) zero h = padded_none (suc k)
number_last (suc k) (suc n) h =
    let m = suc n in
    let c : number (padded (suc k) ((48 + m / 10 ^ k) ∷ last_places k (m % 10 ^ k))) ≡ ((48 + m / 10 ^ k) - 48) * 10 ^ k + number (padded k (last_places k (m % 10 ^ k))) = padded_cons k (48 + m / 10 ^ k) (last_places k (m % 10 ^ k)) in
    let d : (48 + m / 10 ^ k) - 48 ≡ m / 10 ^ k = omega arith in
    ap (λ ds. number (padded (suc k) ds)) (last_step k n) ∙ c ∙ rw (d, number_last k (m % 10 ^ k) (rest_below k m)) (div-add-mod' m (10 ^ k))

-- no places spell a number shorter
pub last_shortest : (k : ℕ) (fraction : List ℕ) (n : ℕ) → All IsAsciiDigit fraction → n ≡ number (padded k fraction) → (length (last_places k n) < length fraction) ⊎ (fraction ≡ last_places k n)
last_shortest zero [] n h e = inr refl
last_shortest zero (d ∷ ds) n h e = inl (omega arith)
last_shortest (suc k) [] n h e = inr (rw (e ∙ padded_none (suc k)) refl)
last_shortest (suc k) (d ∷ ds) zero h e = inl (omega arith)
last_shortest (suc k) (d ∷ ds) (suc n) h e =
    let digit : IsAsciiDigit d = All-head IsAsciiDigit d ds h in
    let digits = All-tail IsAsciiDigit d ds h in
    let below = padded_below k ds digits in
    let split : suc n ≡ (d - 48) * 10 ^ k + number (padded k ds) = e ∙ padded_cons k d ds in
    let first : suc n / 10 ^ k ≡ d - 48 = rw split (div-mul-add (d - 48) (10 ^ k) (number (padded k ds)) below) in
    let left : suc n % 10 ^ k ≡ number (padded k ds) = rw split (mod-mul-add (d - 48) (10 ^ k) (number (padded k ds)) below) in
    let same : 48 + suc n / 10 ^ k ≡ d = omega (arith, first, digit) in
    elim (last_shortest k ds (suc n % 10 ^ k) digits left) [
      | inl less ↦ inl (rw last_step (omega (arith, less)))
      | inr others ↦ inr (rw last_step (ap (λ x. x ∷ ds) (sym same) ∙ ap (λ xs. (48 + suc n / 10 ^ k) ∷ xs) others))
    ]
