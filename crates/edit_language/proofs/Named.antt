-- Numbers and lengths are written in digits, with a point and a minus.
use Rattle.std.proofs.Common.{◌≡◌, ◌∙◌, refl, ap, ℕ, suc, ◌≤◌, ◌<◌, ◌^◌, Bool, true, false, ◌&&◌, List, [], ◌∷◌, ◌++◌, decimal, arith}
use Rattle.std.specs.Prelude.{ℤ, pos, negsuc, ◌/◌, ◌%◌, ◌==◌, if◌then◌else◌}
use Rattle.std.specs.Char.{IsAsciiDigit}
use Rattle.std.specs.List.{All, list_all}
use Rattle.std.proofs.lemmas.Int.{ints}
use Rattle.std.proofs.lemmas.Bool.{and_parts}
use Rattle.grid_num.specs.Length.{IsInRange}
use Rattle.grid_num.specs.Written.{mm_of, mm_of_size, with_point, last_places}
use Rattle.grid_num.proofs.Fractions.{last_digits}
use Rattle.grid_num.proofs.Digits.{decimal_digits}
use Rattle.edit_language.specs.Forms.{is_name_byte}
use Rattle.edit_language.specs.Scripts.{IsSize, IsName}
use Rattle.edit_language.proofs.Steady.{IsNamed}

digit_name : (c : ℕ) → IsAsciiDigit c → is_name_byte c ≡ true
digit_name c h = grind (arith, h)

digits_named : (xs : List ℕ) → All IsAsciiDigit xs → IsNamed xs
digits_named [] h = refl
digits_named (x ∷ xs) h =
    ap (λ b. b && list_all is_name_byte xs) (digit_name x (h 0 x (omega arith))) ∙ digits_named xs (λ k d l. h (suc k) d (omega (arith, l)))

named_both : (xs ys : List ℕ) → IsNamed xs → IsNamed ys → IsNamed (xs ++ ys)
named_both [] ys h g = g
named_both (x ∷ xs) ys h g =
    let p = and_parts (is_name_byte x) (list_all is_name_byte xs) h in
    ap (λ b. b && list_all is_name_byte (xs ++ ys)) p.0 ∙ named_both xs ys p.1 g

pub decimal_named : (n : ℕ) → n < 2 ^ 64 → IsNamed (decimal n)
decimal_named n l = digits_named (decimal n) (decimal_digits n l)

pub is_named : (name : List ℕ) → IsName name → IsNamed name
is_named name h = (and_parts (list_all is_name_byte name) _ h).0

point_by : (b : Bool) (n : ℕ) → n < 10 ^ 6 → IsNamed (if b then [] else 46 ∷ last_places 6 n)
point_by true n l = refl
point_by false n l = digits_named (last_places 6 n) (last_digits 6 n l)

size_named : (n : ℕ) → n ≤ 500000000 → IsNamed (mm_of_size n)
size_named n l =
    named_both (decimal (n / 1000000)) (with_point (n % 1000000)) (decimal_named (n / 1000000) (omega (arith, l))) (point_by (n % 1000000 == 0) (n % 1000000) (omega arith))

pub mm_named : (nm : ℤ) → IsInRange nm → IsNamed (mm_of nm)
mm_named (pos n) r = size_named n (omega (arith, ints, r))
mm_named (negsuc n) r = size_named (suc n) (omega (arith, ints, r))

pub small_named : (n : ℕ) → IsSize n → IsNamed (mm_of (pos n))
small_named n l = size_named n l
