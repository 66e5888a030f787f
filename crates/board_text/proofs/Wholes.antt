-- Whole numbers: what their texts are read as.
use Rattle.std.proofs.Common.{◌≡◌, ℕ, ◌<◌, ◌≤◌, ◌^◌, Bool, true, false, not, ◌||◌, List, length, refl, sym, ◌∙◌, arith, inl, inr, ◌⊎◌, Some, None, nat_lt, min}
use Rattle.std.specs.Prelude.{◌==◌}
use Rattle.std.specs.List.{list_all}
use Rattle.std.specs.Char.{is_ascii_digit}
use Rattle.std.proofs.lemmas.Bool.{false≢true}
use Rattle.std.proofs.lemmas.Bool.Decides.{nat_tests}
use Rattle.grid_num.specs.Spelling.{number}
use Rattle.grid_num.specs.declared.read.NumFault.TheVariants.{NotANumber, OutOfRange}
use Rattle.board_text.specs.Numbers.{whole_fault, whole_number}

is_bad : (digits empty : Bool) → (digits ≡ false) ⊎ (empty ≡ true) → (not digits || empty) ≡ true
is_bad false empty h = refl
is_bad true true h = refl
is_bad true false (inl e) = sym e
is_bad true false (inr e) = e

pub bad_fault : (text : List ℕ) (digits : Bool) → digits ≡ list_all is_ascii_digit text → (digits ≡ false) ⊎ ((length text == 0) ≡ true) → Some NotANumber ≡ whole_fault text
unfolding whole_fault
bad_fault text digits e h = rw (is_bad (list_all is_ascii_digit text) (length text == 0) (rw (← e) h)) refl

pub bad_number : (text : List ℕ) (digits : Bool) → digits ≡ list_all is_ascii_digit text → (digits ≡ false) ⊎ ((length text == 0) ≡ true) → 0 ≡ whole_number text
unfolding whole_number
bad_number text digits e h = rw (← bad_fault text digits e h) refl

is_good : (digits empty : Bool) → digits ≡ true → empty ≡ false → (not digits || empty) ≡ false
is_good true false e h = refl
is_good true true e h = h
is_good false empty e h = absurd (false≢true e)

small : (n : ℕ) → min 4294967296 n < 4294967296 → nat_lt n (2 ^ 32) ≡ true
small n h = lt n (omega (arith, h))
  where
    lt : (n : ℕ) → n < 4294967296 → nat_lt n 4294967296 ≡ true
    lt n h = grind (arith, nat_tests)

great : (n : ℕ) → 4294967296 ≤ min 4294967296 n → nat_lt n (2 ^ 32) ≡ false
great n h = le n (omega (arith, h))
  where
    le : (n : ℕ) → 4294967296 ≤ n → nat_lt n 4294967296 ≡ false
    le n h = grind (arith, nat_tests)

pub small_fault : (text : List ℕ) (digits empty : Bool) (capped : ℕ) → digits ≡ list_all is_ascii_digit text → digits ≡ true → empty ≡ (length text == 0) → empty ≡ false
    → capped ≡ min 4294967296 (number text) → capped < 4294967296 → None ≡ whole_fault text
unfolding whole_fault
small_fault text digits empty capped d dt e ef c l =
    rw (is_good (list_all is_ascii_digit text) (length text == 0) (sym d ∙ dt) (sym e ∙ ef), small (number text) (rw (← c) l)) refl

pub great_fault : (text : List ℕ) (digits empty : Bool) (capped : ℕ) → digits ≡ list_all is_ascii_digit text → digits ≡ true → empty ≡ (length text == 0) → empty ≡ false
    → capped ≡ min 4294967296 (number text) → 4294967296 ≤ capped → Some OutOfRange ≡ whole_fault text
unfolding whole_fault
great_fault text digits empty capped d dt e ef c l =
    rw (is_good (list_all is_ascii_digit text) (length text == 0) (sym d ∙ dt) (sym e ∙ ef), great (number text) (rw (← c) l)) refl

pub small_number : (text : List ℕ) (digits empty : Bool) (capped : ℕ) → digits ≡ list_all is_ascii_digit text → digits ≡ true → empty ≡ (length text == 0) → empty ≡ false
    → capped ≡ min 4294967296 (number text) → capped < 4294967296 → capped ≡ whole_number text
unfolding whole_number
small_number text digits empty capped d dt e ef c l = rw (← small_fault text digits empty capped d dt e ef c l) (omega (arith, c, l))

pub great_number : (text : List ℕ) (digits empty : Bool) (capped : ℕ) → digits ≡ list_all is_ascii_digit text → digits ≡ true → empty ≡ (length text == 0) → empty ≡ false
    → capped ≡ min 4294967296 (number text) → 4294967296 ≤ capped → 0 ≡ whole_number text
unfolding whole_number
great_number text digits empty capped d dt e ef c l = rw (← great_fault text digits empty capped d dt e ef c l) refl
