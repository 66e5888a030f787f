-- Each length that is read, and so each point, is within 500 mm, whatever the text says: a length beyond counts as 0.
use Rattle.std.proofs.Common.{◌≡◌, refl, ℕ, ◌≤◌, arith, Bool, true, false, not, List, drop, Option, None, Some}
use Rattle.std.specs.Prelude.{pos, nat_lt, if◌then◌else◌}
use Rattle.std.proofs.lemmas.Int.{ints}
use Rattle.std.proofs.lemmas.Bool.Decides.{nat_tests}
use Rattle.grid_num.specs.Length.{nanometres, with_sign}
use Rattle.grid_num.specs.Parts.{whole_of, fraction_of}
use Rattle.grid_num.specs.declared.Point.{Point}
use Rattle.grid_num.specs.declared.read.NumFault.TheVariants.{NotANumber, TooFine, OutOfRange}
use Rattle.sexpr_text.specs.Items.{Item}
use Rattle.cores.specs.Room.{IsNearZero}
use Rattle.outline_slab.specs.Rules.{IsInSpan}
use Rattle.board_text.specs.Fields.{text_at}
use Rattle.board_text.specs.Numbers.{is_decimal, are_zeros, is_negative, or_zero, length_fault, length_of, length_at, read_or}
use Rattle.board_text.specs.Items.{point_at}
use Rattle.board_language.specs.Facts.{IsPlaceInReach}

zero_near : IsNearZero 500000000 (pos 0)
zero_near = record { low = omega (arith, ints); high = omega (arith, ints) }

with_near : (s : Bool) (n : ℕ) → n ≤ 500000000 → IsNearZero 500000000 (with_sign s n)
with_near true n h = record { low = omega (arith, ints); high = omega (arith, ints) }
with_near false n h = record { low = omega (arith, ints); high = omega (arith, ints) }

no_more : (n : ℕ) → nat_lt 500000000 n ≡ false → n ≤ 500000000
no_more n e = grind (arith, nat_tests)

length_near : (text : List ℕ) → IsNearZero 500000000 (length_of text)
unfolding length_of length_fault
length_near text =
    by_tests (not (is_decimal text)) (not (are_zeros (drop 6 (fraction_of text)))) (nat_lt 500000000 (nanometres (whole_of text) (fraction_of text))) (is_negative text) (nanometres (whole_of text) (fraction_of text)) refl
  where
    by_tests : (a d t s : Bool) (n : ℕ) → nat_lt 500000000 n ≡ t
        → IsNearZero 500000000 (or_zero (with_sign s n) (pos 0) (if a then Some NotANumber else (if d then Some TooFine else (if t then Some OutOfRange else None))))
    by_tests true d t s n e = zero_near
    by_tests false true t s n e = zero_near
    by_tests false false true s n e = zero_near
    by_tests false false false s n e = with_near s n (no_more n e)

read_near : (text : Option (List ℕ)) → IsNearZero 500000000 (read_or length_of (pos 0) text)
read_near None = zero_near
read_near (Some text) = length_near text

at_near : (bytes : List ℕ) (place : ℕ) (list : Option Item) → IsNearZero 500000000 (length_at bytes place list)
at_near bytes place None = zero_near
at_near bytes place (Some list) = read_near (text_at bytes place list)

pub point_near : (bytes : List ℕ) (list : Option Item) → IsPlaceInReach (point_at bytes list)
point_near bytes list = record { x = at_near bytes 0 list; y = at_near bytes 1 list }

-- as outlines say it
pub span_near : (p : Point) → IsPlaceInReach p → IsInSpan p
span_near p h = record { x = h.x; y = h.y }
