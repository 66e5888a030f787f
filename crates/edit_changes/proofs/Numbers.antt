-- Numbers that edits write are read as what they were written from.
use Rattle.std.proofs.Common.{◌≡◌, ◌∙◌, refl, ap, sym, ℕ, suc, ◌<◌, ◌^◌, Bool, true, false, ◌&&◌, ◌||◌, not, ◌==◌, nat_lt, List, [], ◌∷◌, length, decimal, arith, None, Some}
use Rattle.std.specs.Prelude.{ℤ, pos, if◌then◌else◌}
use Rattle.std.specs.Char.{IsAsciiDigit, is_ascii_digit}
use Rattle.std.specs.List.{All, list_all}
use Rattle.std.proofs.lemmas.Bool.Decides.{nat_tests}
use Rattle.std.proofs.lemmas.Int.{ints}
use Rattle.grid_num.specs.Length.{IsInRange}
use Rattle.grid_num.specs.Spelling.{number}
use Rattle.grid_num.specs.Written.{mm_of}
use Rattle.grid_num.specs.declared.read.NumFault.TheVariants.{NotANumber, OutOfRange}
use Rattle.grid_num.proofs.Digits.{decimal_digits, decimal_some, number_decimal}
use Rattle.grid_num.proofs.Shortest.{mm_spells}
use Rattle.board_text.specs.Numbers.{or_zero, whole_fault, whole_number, length_of}
use Rattle.board_text.proofs.Lengths.{length_is}
use Rattle.edit_language.specs.Scripts.{IsSize, IsWholeNumber}

digit_passes : (c : ℕ) → IsAsciiDigit c → is_ascii_digit c ≡ true
digit_passes c h = grind (arith, nat_tests, h)

digits_pass : (xs : List ℕ) → All IsAsciiDigit xs → list_all is_ascii_digit xs ≡ true
digits_pass [] h = refl
digits_pass (x ∷ xs) h = ap (λ b. b && list_all is_ascii_digit xs) (digit_passes x (h 0 x (omega arith))) ∙ digits_pass xs (λ k d l. h (suc k) d (omega (arith, l)))

some_there : (n : ℕ) → 0 < n → (n == 0) ≡ false
some_there n h = grind (arith, nat_tests, h)

below : (n m : ℕ) → n < m → nat_lt n m ≡ true
below n m h = grind (arith, nat_tests, h)

no_fault : (a b c : Bool) → a ≡ true → b ≡ false → c ≡ true → (if not a || b then Some NotANumber else (if c then None else Some OutOfRange)) ≡ None
no_fault a b c e f g = rw (e, f, g) refl

decimal_fault : (n : ℕ) → IsWholeNumber n → whole_fault (decimal n) ≡ None
unfolding whole_fault
decimal_fault n l =
    no_fault (list_all is_ascii_digit (decimal n)) (length (decimal n) == 0) (nat_lt (number (decimal n)) (2 ^ 32)) (digits_pass (decimal n) (decimal_digits n (omega (arith, l))))
    (some_there (length (decimal n)) (decimal_some n (omega (arith, l)))) (ap (λ m. nat_lt m (2 ^ 32)) (number_decimal n (omega (arith, l))) ∙ below n (2 ^ 32) l)

pub whole_read : (n : ℕ) → IsWholeNumber n → whole_number (decimal n) ≡ n
unfolding whole_number
whole_read n l = ap (or_zero (number (decimal n)) 0) (decimal_fault n l) ∙ number_decimal n (omega (arith, l))

pub size_read : (n : ℕ) → IsSize n → length_of (mm_of (pos n)) ≡ pos n
size_read n l = sym (length_is (mm_of (pos n)) (pos n) (mm_spells (pos n) (omega (arith, ints, l), omega (arith, ints, l))).length_is)

pub mm_read : (z : ℤ) → IsInRange z → length_of (mm_of z) ≡ z
mm_read z r = sym (length_is (mm_of z) z (mm_spells z r).length_is)
