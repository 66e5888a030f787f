-- The reading of a length here is the one of `grid_num`.
use Rattle.std.proofs.Common.{◌≡◌, ℕ, ◌+◌, ◌<◌, ◌≤◌, Bool, true, false, not, ◌&&◌, List, [], ◌∷◌, length, drop, refl, sym, ap, ◌∙◌, subst, arith, All, Some, None, nat_lt}
use Rattle.std.specs.Prelude.{ℤ, pos, ◌==◌}
use Rattle.std.specs.List.{list_all}
use Rattle.std.specs.Char.{IsAsciiDigit, is_ascii_digit}
use Rattle.std.proofs.lemmas.Bool.Decides.{nat_tests}
use Rattle.std.proofs.lemmas.Bool.{false≢true, and_parts, eqb-true}
use Rattle.std.proofs.lemmas.List.Elements.{All-head, All-tail, All-nil, All-cons}
use Rattle.grid_num.specs.Spelling.{IsSpelling, SpellsNone}
use Rattle.grid_num.specs.Length.{IsLength, IsWholeNm, nanometres, with_sign}
use Rattle.grid_num.specs.Faults.{HasFault}
use Rattle.grid_num.specs.Parts.{begins_with, whole_of, fraction_of}
use Rattle.grid_num.specs.declared.read.NumFault.{NumFault}
use Rattle.grid_num.specs.declared.read.NumFault.TheVariants.{NotANumber, TooFine, OutOfRange}
use Rattle.grid_num.proofs.Cutting.{AreParts, parts_are, parts_spell}
use Rattle.board_text.specs.Numbers.{is_decimal, are_zeros, length_fault, length_of}

digits_pass : (xs : List ℕ) → All IsAsciiDigit xs → list_all is_ascii_digit xs ≡ true
digits_pass [] h = refl
digits_pass (x ∷ xs) h = rw (digit_true x (All-head IsAsciiDigit x xs h)) (digits_pass xs (All-tail IsAsciiDigit x xs h))
  where
    digit_true : (c : ℕ) → IsAsciiDigit c → is_ascii_digit c ≡ true
    digit_true c h = grind (arith, nat_tests)

digits_from : (xs : List ℕ) → list_all is_ascii_digit xs ≡ true → All IsAsciiDigit xs
digits_from [] h = All-nil IsAsciiDigit
digits_from (x ∷ xs) h =
    let p = and_parts (is_ascii_digit x) (list_all is_ascii_digit xs) h in
    All-cons IsAsciiDigit x xs (digit_from x p.0) (digits_from xs p.1)
  where
    digit_from : (c : ℕ) → is_ascii_digit c ≡ true → IsAsciiDigit c
    digit_from c h = grind (arith, nat_tests)

zeros_pass : (xs : List ℕ) → All (λ d. d ≡ 48) xs → are_zeros xs ≡ true
zeros_pass [] h = refl
zeros_pass (x ∷ xs) h = rw (All-head (λ d. d ≡ 48) x xs h) (zeros_pass xs (All-tail (λ d. d ≡ 48) x xs h))

zeros_from : (xs : List ℕ) → are_zeros xs ≡ true → All (λ d. d ≡ 48) xs
zeros_from [] h = All-nil (λ d. d ≡ 48)
zeros_from (x ∷ xs) h =
    let p = and_parts (x == 48) (are_zeros xs) h in
    All-cons (λ d. d ≡ 48) x xs (eqb-true x 48 p.0) (zeros_from xs p.1)

some_of : (a b : ℕ) → 0 < a + b → not (a + b == 0) ≡ true
some_of a b h = grind (arith, nat_tests)

some_from : (a b : ℕ) → not (a + b == 0) ≡ true → 0 < a + b
some_from a b h = grind (arith, nat_tests)

pub spelt : (text : List ℕ) (n : Bool) (w f : List ℕ) → IsSpelling text n w f → is_decimal text ≡ true
spelt text n w f s =
    let p : AreParts text n w f = parts_are text n w f s in
    let d : list_all is_ascii_digit (fraction_of text) ≡ true = digits_pass (fraction_of text) (subst (All IsAsciiDigit) p.fraction_is s.fraction_digits) in
    let l : 0 < length (whole_of text) + length (fraction_of text) = omega (arith, s.some_digit, ap length p.whole_is, ap length p.fraction_is) in
    both (list_all is_ascii_digit (fraction_of text)) (not (length (whole_of text) + length (fraction_of text) == 0)) d (some_of (length (whole_of text)) (length (fraction_of text)) l)
  where
    both : (a b : Bool) → a ≡ true → b ≡ true → (a && b) ≡ true
    both true b e h = h
    both false b e h = absurd (false≢true e)

pub none_spelt : (text : List ℕ) → SpellsNone text → is_decimal text ≡ false
none_spelt text h = by_cases (is_decimal text) refl
  where
    by_cases : (b : Bool) → is_decimal text ≡ b → b ≡ false
    by_cases false e = refl
    by_cases true e =
        let p = and_parts (list_all is_ascii_digit (fraction_of text)) (not (length (whole_of text) + length (fraction_of text) == 0)) e in
        absurd (h (begins_with text 45) (whole_of text) (fraction_of text)
        (parts_spell text (digits_from (fraction_of text) p.0) (some_from (length (whole_of text)) (length (fraction_of text)) p.1)))

-- no digit past the sixth place is another than 0
pub fine_of : (text : List ℕ) (n : Bool) (w f : List ℕ) → IsSpelling text n w f → IsWholeNm f → are_zeros (drop 6 (fraction_of text)) ≡ true
fine_of text n w f s h = zeros_pass (drop 6 (fraction_of text)) (subst IsWholeNm (parts_are text n w f s).fraction_is h)

pub not_fine : (text : List ℕ) (n : Bool) (w f : List ℕ) → IsSpelling text n w f → (IsWholeNm f → ⊥) → are_zeros (drop 6 (fraction_of text)) ≡ false
not_fine text n w f s h = by_cases (are_zeros (drop 6 (fraction_of text))) refl
  where
    by_cases : (b : Bool) → are_zeros (drop 6 (fraction_of text)) ≡ b → b ≡ false
    by_cases false e = refl
    by_cases true e = absurd (h (subst IsWholeNm (sym (parts_are text n w f s).fraction_is) (zeros_from (drop 6 (fraction_of text)) e)))

pub size_is : (text : List ℕ) (n : Bool) (w f : List ℕ) → IsSpelling text n w f → nanometres w f ≡ nanometres (whole_of text) (fraction_of text)
size_is text n w f s =
    let p : AreParts text n w f = parts_are text n w f s in
    ap (λ x. nanometres x f) p.whole_is ∙ ap (nanometres (whole_of text)) p.fraction_is

pub lt_of : (a b : ℕ) → a < b → nat_lt a b ≡ true
lt_of a b h = grind (arith, nat_tests)

pub not_lt_of : (a b : ℕ) → b ≤ a → nat_lt a b ≡ false
not_lt_of a b h = grind (arith, nat_tests)

pub length_reads : (text : List ℕ) (nm : ℤ) → IsLength text nm → length_fault text ≡ None
unfolding length_fault
length_reads text nm l =
    rw (
      spelt text l.negative l.whole l.fraction l.spelling,
      fine_of text l.negative l.whole l.fraction l.spelling l.fine,
      not_lt_of 500000000 (nanometres (whole_of text) (fraction_of text)) (omega (arith, l.range, size_is text l.negative l.whole l.fraction l.spelling)),
    ) refl

pub fault_reads : (text : List ℕ) (f : NumFault) → HasFault text f → length_fault text ≡ Some f
unfolding length_fault
fault_reads text NotANumber h = rw (none_spelt text h) refl
fault_reads text TooFine h = rw (spelt text h.negative h.whole h.fraction h.spelling, not_fine text h.negative h.whole h.fraction h.spelling h.too_fine) refl
fault_reads text OutOfRange h =
    rw (
      spelt text h.negative h.whole h.fraction h.spelling,
      fine_of text h.negative h.whole h.fraction h.spelling h.fine,
      lt_of 500000000 (nanometres (whole_of text) (fraction_of text)) (omega (arith, h.beyond, size_is text h.negative h.whole h.fraction h.spelling)),
    ) refl

pub length_is : (text : List ℕ) (nm : ℤ) → IsLength text nm → nm ≡ length_of text
unfolding length_of
length_is text nm l =
    rw (length_reads text nm l)
    (l.value ∙ ap (λ n. with_sign n (nanometres l.whole l.fraction)) (parts_are text l.negative l.whole l.fraction l.spelling).negative_is
    ∙ ap (with_sign (begins_with text 45)) (size_is text l.negative l.whole l.fraction l.spelling))

pub zero_is : (text : List ℕ) (f : NumFault) → HasFault text f → pos 0 ≡ length_of text
unfolding length_of
zero_is text f h = rw (fault_reads text f h) refl
