-- Whole numbers that words spell.
use Rattle.std.proofs.Common.{◌≡◌, refl, sym, ℕ, Bool, true, false, not, List, length, Option, None, Some, arith}
use Rattle.std.specs.Prelude.{◌^◌, ◌<◌, ◌==◌, ◌&&◌, ◌||◌, nat_lt, nat_le, is_none, is_some, if◌then◌else◌}
use Rattle.std.specs.List.{list_all}
use Rattle.std.specs.Char.{is_ascii_digit}
use Rattle.std.proofs.lemmas.Bool.{false≢true, eqb-true}
use Rattle.grid_num.specs.Spelling.{number}
use Rattle.grid_num.specs.declared.read.NumFault.{NumFault}
use Rattle.grid_num.specs.declared.read.NumFault.TheVariants.{NotANumber, OutOfRange}
use Rattle.board_text.specs.Numbers.{or_zero, whole_fault, whole_number}
use Rattle.edit_language.specs.Forms.{is_whole_word}

by_tests : (a e l : Bool) → a ≡ true → e ≡ false → is_none (if not a || e then Some NotANumber else (if l then None else Some OutOfRange)) ≡ l
by_tests true false true p q = refl
by_tests true false false p q = refl
by_tests true true l p q = absurd (false≢true (sym q))
by_tests false e l p q = absurd (false≢true p)

no_bytes : (n : ℕ) (b : Bool) → (n == 0) ≡ b → 0 < n → b ≡ false
no_bytes n true e l = let z = eqb-true n 0 e in absurd (omega (arith, z, l))
no_bytes n false e l = refl

-- some digits spell a number that is below 2 ^ 32, or they have a fault
pub small : (word : List ℕ) → list_all is_ascii_digit word ≡ true → 0 < length word → is_none (whole_fault word) ≡ nat_lt (number word) (2 ^ 32)
unfolding whole_fault
small word a l = by_tests (list_all is_ascii_digit word) (length word == 0) (nat_lt (number word) (2 ^ 32)) a (no_bytes (length word) (length word == 0) refl l)

value_by : (n : ℕ) (a e m l : Bool) → ((a && (not e && m)) && l) ≡ true
    → or_zero n 0 (if not a || e then Some NotANumber else (if l then None else Some OutOfRange)) ≡ n
value_by n true false true true p = refl
value_by n true false true false p = absurd (false≢true p)
value_by n true false false l p = absurd (false≢true p)
value_by n true true m l p = absurd (false≢true p)
value_by n false e m l p = absurd (false≢true p)

-- a word of the form of whole numbers spells its number
pub value : (word : List ℕ) → is_whole_word word ≡ true → whole_number word ≡ number word
unfolding whole_number whole_fault
value word e = value_by (number word) (list_all is_ascii_digit word) (length word == 0) (nat_le (length word) 10) (nat_lt (number word) (2 ^ 32)) e

-- what says that there is no fault
pub none_is : (o : Option NumFault) (b : Bool) → is_some o ≡ not b → b ≡ is_none o
none_is None true e = refl
none_is None false e = absurd (false≢true e)
none_is (Some fault) true e = absurd (false≢true (sym e))
none_is (Some fault) false e = refl
