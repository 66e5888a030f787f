-- The reading of an area here is the one of `grid_num`.
use Rattle.std.proofs.Common.{◌≡◌, ℕ, ◌<◌, ◌≤◌, Bool, true, false, ◌||◌, ◌&&◌, List, refl, sym, ap, ◌∙◌, subst, arith, Some, None, nat_lt, ◌⊎◌, inl, inr}
use Rattle.std.proofs.lemmas.Bool.{false≢true}
use Rattle.grid_num.specs.Area.{IsArea, HasAreaFault, millionths}
use Rattle.grid_num.specs.Parts.{begins_with, whole_of, fraction_of}
use Rattle.grid_num.specs.Spelling.{IsSpelling}
use Rattle.grid_num.specs.declared.read.NumFault.{NumFault}
use Rattle.grid_num.specs.declared.read.NumFault.TheVariants.{NotANumber, TooFine, OutOfRange}
use Rattle.grid_num.proofs.Cutting.{parts_are}
use Rattle.board_text.specs.Numbers.{is_negative, is_no_area, area_fault, area_number}
use Rattle.board_text.proofs.Lengths.{spelt, none_spelt, fine_of, not_fine, size_is, lt_of, not_lt_of}

-- what counts as an area, and what doesn't
in_range : (negative : Bool) (area : ℕ) → area ≤ 1000000000000 → (negative ≡ true → area ≡ 0) → is_no_area negative area ≡ false
in_range true area l f = rw (f refl) refl
in_range false area l f = not_lt_of 1000000000000 area l

out_of_range : (negative : Bool) (area : ℕ) → ((negative ≡ true) × (0 < area)) ⊎ (1000000000000 < area) → is_no_area negative area ≡ true
out_of_range true area (inl h) = rw (lt_of 0 area h.1) refl
out_of_range true area (inr l) = rw (lt_of 0 area (omega (arith, l))) refl
out_of_range false area (inl h) = absurd (false≢true h.0)
out_of_range false area (inr l) = lt_of 1000000000000 area l

-- the sign and the size are those of the text's parts
range_is : (text : List ℕ) (negative : Bool) (whole fraction : List ℕ) → IsSpelling text negative whole fraction
    → is_no_area negative (millionths whole fraction) ≡ is_no_area (is_negative text) (millionths (whole_of text) (fraction_of text))
range_is text n w f s =
    ap (λ b. is_no_area b (millionths w f)) (parts_are text n w f s).negative_is ∙ ap (is_no_area (begins_with text 45)) (size_is text n w f s)

pub area_reads : (text : List ℕ) (area : ℕ) → IsArea text area → area_fault text ≡ None
unfolding area_fault
area_reads text area a =
    rw (
      spelt text a.negative a.whole a.fraction a.spelling,
      fine_of text a.negative a.whole a.fraction a.spelling a.fine,
      sym (range_is text a.negative a.whole a.fraction a.spelling) ∙ in_range a.negative (millionths a.whole a.fraction) a.range a.sign,
    ) refl

pub area_fault_reads : (text : List ℕ) (f : NumFault) → HasAreaFault text f → area_fault text ≡ Some f
unfolding area_fault
area_fault_reads text NotANumber h = rw (none_spelt text h) refl
area_fault_reads text TooFine h = rw (spelt text h.negative h.whole h.fraction h.spelling, not_fine text h.negative h.whole h.fraction h.spelling h.too_fine) refl
area_fault_reads text OutOfRange h =
    rw (
      spelt text h.negative h.whole h.fraction h.spelling,
      fine_of text h.negative h.whole h.fraction h.spelling h.fine,
      sym (range_is text h.negative h.whole h.fraction h.spelling) ∙ out_of_range h.negative (millionths h.whole h.fraction) h.beyond,
    ) refl

pub area_is : (text : List ℕ) (area : ℕ) → IsArea text area → area ≡ area_number text
unfolding area_number
area_is text area a = rw (area_reads text area a) (a.value ∙ size_is text a.negative a.whole a.fraction a.spelling)

pub no_area_is : (text : List ℕ) (f : NumFault) → HasAreaFault text f → 0 ≡ area_number text
unfolding area_number
no_area_is text f h = rw (area_fault_reads text f h) refl
