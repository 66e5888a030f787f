-- Each area that is read is at most 1,000,000 square millimetres, whatever the text says: an area beyond counts as 0.
use Rattle.std.proofs.Common.{◌≡◌, refl, ℕ, ◌≤◌, arith, Bool, true, false, not, ◌||◌, ◌&&◌, List, Option, None, Some}
use Rattle.std.specs.Prelude.{nat_lt, ◌==◌, if◌then◌else◌}
use Rattle.std.proofs.lemmas.Bool.Decides.{nat_tests}
use Rattle.std.proofs.lemmas.Bool.{true≢false}
use Rattle.grid_num.specs.Area.{millionths}
use Rattle.grid_num.specs.Parts.{whole_of, fraction_of}
use Rattle.grid_num.specs.declared.read.NumFault.TheVariants.{NotANumber, TooFine, OutOfRange}
use Rattle.sexpr_text.specs.Items.{Item}
use Rattle.board_text.specs.Fields.{text_at}
use Rattle.board_text.specs.Numbers.{is_decimal, is_fine, is_negative, is_no_area, or_zero, area_fault, area_number, read_or, value_at}
use Rattle.board_language.specs.declared.IslandMode.TheVariants.{Remove, Keep, Below}
use Rattle.board_language.specs.Zones.{island_area_list, island_area_in, islands_by}
use Rattle.board_language.specs.Facts.{IsIslandModeInRange}

no_more : (n : ℕ) → nat_lt 1000000000000 n ≡ false → n ≤ 1000000000000
no_more n e = grind (arith, nat_tests)

no_area : (s : Bool) (n : ℕ) → is_no_area s n ≡ false → n ≤ 1000000000000
no_area s n e = by_tests (s && nat_lt 0 n) (nat_lt 1000000000000 n) refl e
  where
    by_tests : (a b : Bool) → nat_lt 1000000000000 n ≡ b → (a || b) ≡ false → n ≤ 1000000000000
    by_tests true b h e = absurd (true≢false e)
    by_tests false true h e = absurd (true≢false e)
    by_tests false false h e = no_more n h

area_near : (text : List ℕ) → area_number text ≤ 1000000000000
unfolding area_number area_fault
area_near text =
    by_tests (not (is_decimal text)) (not (is_fine text)) (is_no_area (is_negative text) (millionths (whole_of text) (fraction_of text))) (millionths (whole_of text) (fraction_of text))
    (no_area (is_negative text) (millionths (whole_of text) (fraction_of text)))
  where
    by_tests : (a d t : Bool) (n : ℕ) → (t ≡ false → n ≤ 1000000000000)
        → or_zero n 0 (if a then Some NotANumber else (if d then Some TooFine else (if t then Some OutOfRange else None))) ≤ 1000000000000
    by_tests true d t n f = omega arith
    by_tests false true t n f = omega arith
    by_tests false false true n f = omega arith
    by_tests false false false n f = f refl

read_near : (text : Option (List ℕ)) → read_or area_number 10000000 text ≤ 1000000000000
read_near None = omega arith
read_near (Some text) = area_near text

value_near : (bytes : List ℕ) (list : Option Item) → value_at area_number bytes 0 10000000 list ≤ 1000000000000
value_near bytes None = omega arith
value_near bytes (Some list) = read_near (text_at bytes 0 list)

pub island_area_near : (bytes : List ℕ) (zone : Item) → island_area_in bytes zone ≤ 1000000000000
island_area_near bytes zone = value_near bytes (island_area_list bytes zone)

pub mode_near : (mode area : ℕ) → area ≤ 1000000000000 → IsIslandModeInRange (islands_by mode area)
mode_near mode area h = by_tests (mode == 0) (mode == 1)
  where
    by_tests : (a b : Bool) → IsIslandModeInRange (if a then Remove else (if b then Keep else Below area))
    by_tests true b = tt
    by_tests false true = tt
    by_tests false false = h
