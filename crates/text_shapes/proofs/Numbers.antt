-- The texts of numbers are words.
use Rattle.std.proofs.Common.{◌≡◌, refl, ap, ℕ, suc, ◌/◌, ◌%◌, ◌^◌, ◌<◌, ◌≤◌, Bool, true, false, ◌&&◌, ◌∙◌, not, ◌==◌, List, [], ◌∷◌, ◌++◌, length, decimal, arith, length-append}
use Rattle.std.specs.Prelude.{ℤ, pos, negsuc, if◌then◌else◌}
use Rattle.std.specs.Char.{IsAsciiDigit}
use Rattle.std.specs.List.{All, list_all}
use Rattle.std.proofs.lemmas.Int.{ints}
use Rattle.std.proofs.lemmas.Bool.{and_parts}
use Rattle.std.proofs.lemmas.Bool.Decides.{nat_tests}
use Rattle.grid_num.specs.Length.{IsInRange}
use Rattle.grid_num.specs.Written.{mm_of, mm_of_size, with_point, last_places}
use Rattle.grid_num.proofs.Fractions.{last_digits}
use Rattle.grid_num.proofs.Digits.{decimal_digits, decimal_some}
use Rattle.text_shapes.specs.Layouts.{is_plain, is_plain_word}
use Rattle.text_shapes.proofs.Layouts.{all_both}

digit_plain : (c : ℕ) → IsAsciiDigit c → is_plain c ≡ true
digit_plain c h = grind (arith, nat_tests, h)

digits_plain : (xs : List ℕ) → All IsAsciiDigit xs → list_all is_plain xs ≡ true
digits_plain [] h = refl
digits_plain (x ∷ xs) h =
    ap (λ b. b && list_all is_plain xs) (digit_plain x (h 0 x (omega arith))) ∙ digits_plain xs (λ k d l. h (suc k) d (omega (arith, l)))

some_there : (n : ℕ) → 0 < n → not (n == 0) ≡ true
some_there n h = grind (arith, nat_tests)

both_true : (a b : Bool) → a ≡ true → b ≡ true → (a && b) ≡ true
both_true a b e f = rw (e, f) refl

pub plain_of : (t : List ℕ) → 0 < length t → list_all is_plain t ≡ true → is_plain_word t ≡ true
plain_of t l h = both_true (not (length t == 0)) (list_all is_plain t) (some_there (length t) l) h

pub decimal_plain : (n : ℕ) → n < 2 ^ 64 → list_all is_plain (decimal n) ≡ true
decimal_plain n l = digits_plain (decimal n) (decimal_digits n l)

-- ---- lengths

point_by : (b : Bool) (n : ℕ) → n < 10 ^ 6 → list_all is_plain (if b then [] else 46 ∷ last_places 6 n) ≡ true
point_by true n l = refl
point_by false n l = digits_plain (last_places 6 n) (last_digits 6 n l)

pub mm_plain : (n : ℕ) → n ≤ 500000000 → is_plain_word (mm_of (pos n)) ≡ true
mm_plain n l =
    plain_of (decimal (n / 1000000) ++ with_point (n % 1000000))
    (omega (arith, length-append (decimal (n / 1000000)) (with_point (n % 1000000)), decimal_some (n / 1000000) (omega (arith, l))))
    (all_both is_plain (decimal (n / 1000000)) (with_point (n % 1000000)) (decimal_plain (n / 1000000) (omega (arith, l))) (point_by (n % 1000000 == 0) (n % 1000000) (omega arith)))

pub mm_word : (z : ℤ) → IsInRange z → is_plain_word (mm_of z) ≡ true
mm_word (pos n) r = mm_plain n (omega (arith, ints, r.0, r.1))
mm_word (negsuc n) r = plain_of (45 ∷ mm_of_size (suc n)) (omega arith) (and_parts _ (list_all is_plain (mm_of_size (suc n))) (mm_plain (suc n) (omega (arith, ints, r.0, r.1)))).1
