-- The texts of the numbers of a board that is made: words, and read as what they were written from.
use Rattle.std.proofs.Common.{◌≡◌, ◌∙◌, refl, ap, sym, ℕ, suc, ◌/◌, ◌%◌, ◌^◌, ◌<◌, ◌≤◌, Bool, true, false, ◌&&◌, not, ◌==◌, List, [], ◌∷◌, ◌++◌, length, decimal, None, arith, length-append}
use Rattle.std.specs.Prelude.{pos, if◌then◌else◌, bytes_eq}
use Rattle.std.specs.Char.{IsAsciiDigit}
use Rattle.std.specs.List.{All, list_all}
use Rattle.std.proofs.lemmas.Int.{ints}
use Rattle.std.proofs.lemmas.Bool.Decides.{nat_tests}
use Rattle.std.proofs.lemmas.Fmt.{decimal_injective}
use Rattle.std.proofs.lemmas.Slice.Eq.{bytes_eq-Decides}
use Rattle.grid_num.specs.Length.{IsInRange}
use Rattle.grid_num.specs.Written.{mm_of, with_point, last_places}
use Rattle.grid_num.proofs.Fractions.{last_digits}
use Rattle.grid_num.proofs.Digits.{decimal_digits, decimal_some}
use Rattle.grid_num.proofs.Shortest.{mm_spells}
use Rattle.board_text.specs.Numbers.{length_fault, length_of}
use Rattle.board_text.proofs.Lengths.{length_reads, length_is}
use Rattle.text_shapes.specs.Layouts.{is_plain, is_plain_word}
use Rattle.text_shapes.proofs.Numbers.{plain_of, decimal_plain}

-- ---- stamps

-- the stamp of the item of a number
abbrev pub stamp_of : ℕ → List ℕ
stamp_of i = 103 ∷ decimal i

pub stamp_plain : (i : ℕ) → i < 2 ^ 64 → is_plain_word (stamp_of i) ≡ true
stamp_plain i l = plain_of (103 ∷ decimal i) (omega arith) (decimal_plain i l)

tail_of : List ℕ → List ℕ
tail_of [] = []
tail_of (c ∷ cs) = cs

same_tail : (a b : ℕ) (xs ys : List ℕ) → a ∷ xs ≡ b ∷ ys → xs ≡ ys
unfolding tail_of
same_tail a b xs ys e = ap tail_of e

-- two numbers have two stamps
pub stamps_differ : (i j : ℕ) → i < j → j < 2 ^ 64 → bytes_eq (stamp_of i) (stamp_of j) ≡ false
stamps_differ i j l m = by_test (bytes_eq (stamp_of i) (stamp_of j)) refl
  where
    by_test : (b : Bool) → bytes_eq (stamp_of i) (stamp_of j) ≡ b → b ≡ false
    by_test false e = refl
    by_test true e =
        let s : stamp_of i ≡ stamp_of j = (bytes_eq-Decides (stamp_of i) (stamp_of j)).0 e in
        let n : i ≡ j = decimal_injective i j (omega arith) m (same_tail 103 103 (decimal i) (decimal j) s) in
        absurd (omega (arith, n))

-- ---- lengths

in_range : (n : ℕ) → n ≤ 500000000 → IsInRange (pos n)
in_range n l = (omega (arith, ints), omega (arith, ints))

pub mm_fault : (n : ℕ) → n ≤ 500000000 → length_fault (mm_of (pos n)) ≡ None
mm_fault n l = length_reads (mm_of (pos n)) (pos n) (mm_spells (pos n) (in_range n l)).length_is

pub mm_value : (n : ℕ) → n ≤ 500000000 → length_of (mm_of (pos n)) ≡ pos n
mm_value n l = sym (length_is (mm_of (pos n)) (pos n) (mm_spells (pos n) (in_range n l)).length_is)
