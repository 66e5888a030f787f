-- What a pad that doesn't offend has in its ranges.
use Rattle.std.proofs.Common.{◌≡◌, ℕ, zero, suc, ◌+◌, ◌<◌, ◌≤◌, ◌%◌, Bool, true, false, ◌&&◌, ◌||◌, not, cond, max, List, [], ◌∷◌, get_or, refl, sym, ap, ◌∙◌, arith, Option, Some, None, is_some, nat_lt}
use Rattle.std.specs.Prelude.{ℤ, pos, negsuc, codes, unwrap_or, ◌==◌}
use Rattle.std.specs.Option.{option_or}
use Rattle.std.specs.Int.RustNames.{unsigned_abs}
use Rattle.std.proofs.lemmas.Bool.{false≢true}
use Rattle.std.proofs.lemmas.Bool.Decides.{nat_tests}
use Rattle.std.proofs.lemmas.Int.{ints}
use Rattle.grid_num.specs.Length.{IsInRange}
use Rattle.grid_num.specs.declared.read.NumFault.{NumFault}
use Rattle.sexpr_text.specs.Items.{Item}
use Rattle.board_language.specs.declared.offence.OffenceKind.{OffenceKind}
use Rattle.board_language.specs.declared.offence.OffenceKind.TheVariants as kinds
use Rattle.grid_num.specs.declared.read.NumFault.TheVariants.{OutOfRange}
use Rattle.board_text.specs.Fields.{list_of}
use Rattle.board_text.specs.Numbers.{first_of, length_at}
use Rattle.board_text.specs.Items.{Context, size_of, is_no_length, is_no_size}
use Rattle.board_language.specs.Pads.{Size, pad_place, is_far, pad_fault, pad_faults, is_hole, written_size, drilled_size, swapped, size_on_board, turns_in, ratio_in, drill_of, drill_width, drill_height}
use Rattle.board_language.specs.Offences.{when, number_offence, pad_kind, pad_kinds, pad_is_bad, has_bad_drill, is_bad_ratio}
use Rattle.board_language.proofs.NoneOffends.{none_at}
use Rattle.board_pads.specs.Ratios.{kept_ratio}
use Rattle.board_pads.specs.Ranges.{IsInRanges}

some_is_not : {X : Type 0} (x : X) → Some x ≡ None → ⊥
some_is_not x e = false≢true (sym (ap is_some e))

fault_none : (f rest : Option NumFault) → option_or f rest ≡ None → (f ≡ None) × (rest ≡ None)
fault_none None rest e = (refl, e)
fault_none (Some x) rest e = absurd (some_is_not x e)

when_none : (k : OffenceKind) (t : Bool) → when k t ≡ None → t ≡ false
when_none k true e = absurd (some_is_not k e)
when_none k false e = refl

number_none : (f : Option NumFault) → number_offence f ≡ None → f ≡ None
number_none None e = refl
number_none (Some x) e = absurd (some_is_not _ e)

cond_none : (t : Bool) (f : NumFault) → cond t (Some f) None ≡ None → t ≡ false
cond_none true f e = absurd (some_is_not f e)
cond_none false f e = refl

neither : (a b : Bool) → (a || b) ≡ false → (a ≡ false) × (b ≡ false)
neither false b e = (refl, e)
neither true b e = absurd (false≢true (sym e))

pub near : (z : ℤ) → is_far z ≡ false → IsInRange z
near (pos n) e = let l = small n e in (omega (arith, ints), omega (arith, ints, l))
  where
    small : (n : ℕ) → nat_lt 500000000 n ≡ false → n ≤ 500000000
    small n e = grind (arith, nat_tests)
near (negsuc n) e = let l = small n e in (omega (arith, ints, l), omega (arith, ints))
  where
    small : (n : ℕ) → nat_lt 500000000 (suc n) ≡ false → suc n ≤ 500000000
    small n e = grind (arith, nat_tests)

at_most : (n : ℕ) → nat_lt 100000000 n ≡ false → n ≤ 100000000
at_most n e = grind (arith, nat_tests)

length_most : (z : ℤ) → is_no_length z ≡ false → size_of z ≤ 100000000
length_most z e = at_most (size_of z) (neither _ (nat_lt 100000000 (size_of z)) e).1

size_most : (z : ℤ) → is_no_size z ≡ false → size_of z ≤ 100000000
size_most z e = length_most z (neither (is_no_length z) (size_of z == 0) e).0

abbrev IsSmall : Size → Type 0
IsSmall s = (s.width ≤ 100000000) × (s.height ≤ 100000000)

swapped_small : (t : ℕ) (s : Size) → IsSmall s → IsSmall (swapped t s)
swapped_small t s h = by_case (t % 2 == 1) refl
  where
    by_case : (b : Bool) → (t % 2 == 1) ≡ b → IsSmall (swapped t s)
    by_case true e = rw e (h.1, h.0)
    by_case false e = rw e h

drilled_small : (bytes : List ℕ) (pad : Item) → IsSmall (written_size bytes pad) → has_bad_drill bytes pad ≡ false → IsSmall (drilled_size bytes pad)
drilled_small bytes pad h d = by_case (is_hole bytes pad) refl d
  where
    by_case : (b : Bool) → is_hole bytes pad ≡ b → (is_hole bytes pad && (is_no_length (drill_width bytes (drill_of bytes pad)) || is_no_length (drill_height bytes (drill_of bytes pad)))) ≡ false → IsSmall (drilled_size bytes pad)
    by_case true e d =
        let both = neither (is_no_length (drill_width bytes (drill_of bytes pad))) (is_no_length (drill_height bytes (drill_of bytes pad)))
        (sym (ap (λ b. b && (is_no_length (drill_width bytes (drill_of bytes pad)) || is_no_length (drill_height bytes (drill_of bytes pad)))) e) ∙ d) in
        let w = length_most (drill_width bytes (drill_of bytes pad)) both.0 in
        let t = length_most (drill_height bytes (drill_of bytes pad)) both.1 in
        rw e (omega (arith, h.0, w), omega (arith, h.1, t))
    by_case false e d = rw e h

fault_at : (n : ℕ) (fs : List (Option NumFault)) → first_of fs ≡ None → get_or fs n None ≡ None
fault_at n [] e = refl
fault_at zero (f ∷ fs) e = (fault_none f (first_of fs) e).0
fault_at (suc n) (f ∷ fs) e = fault_at n fs (fault_none f (first_of fs) e).1

not_bad : (c : Context) (footprint pad : Item) (many : Bool) → pad_kind c footprint pad many ≡ None → pad_is_bad c.bytes pad ≡ false
unfolding pad_kind
not_bad c footprint pad many h = when_none kinds.BadSize (pad_is_bad c.bytes pad) (none_at 6 (pad_kinds c footprint pad many) h)

no_fault : (c : Context) (footprint pad : Item) (many : Bool) → pad_kind c footprint pad many ≡ None → pad_fault c.bytes footprint pad ≡ None
unfolding pad_kind
no_fault c footprint pad many h = number_none (pad_fault c.bytes footprint pad) (none_at 4 (pad_kinds c footprint pad many) h)

not_far : (bytes : List ℕ) (footprint pad : Item) → pad_fault bytes footprint pad ≡ None → (is_far (pad_place bytes footprint pad).x || is_far (pad_place bytes footprint pad).y) ≡ false
unfolding pad_fault
not_far bytes footprint pad h =
    cond_none (is_far (pad_place bytes footprint pad).x || is_far (pad_place bytes footprint pad).y) OutOfRange
    (fault_at 1 (pad_faults bytes footprint pad) h)

small_size : (bytes : List ℕ) (pad : Item) → IsSmall (swapped (turns_in bytes pad) (drilled_size bytes pad)) → IsSmall (size_on_board bytes pad)
unfolding size_on_board
small_size bytes pad h = h

pub in_ranges : (c : Context) (footprint pad : Item) (many : Bool) → pad_kind c footprint pad many ≡ None → IsInRanges c.bytes footprint pad
in_ranges c footprint pad many h =
    let far = neither (is_far (pad_place c.bytes footprint pad).x) (is_far (pad_place c.bytes footprint pad).y) (not_far c.bytes footprint pad (no_fault c footprint pad many h)) in
    let bad : pad_is_bad c.bytes pad ≡ false = not_bad c footprint pad many h in
    let width = neither _ _ bad in
    let height = neither _ _ width.1 in
    let drill = neither (has_bad_drill c.bytes pad) _ height.1 in
    let ratio = neither (is_bad_ratio (ratio_in c.bytes pad)) _ drill.1 in
    let size : IsSmall (written_size c.bytes pad) =
    (size_most (length_at c.bytes 0 (list_of c.bytes (codes "size") pad)) width.0, size_most (length_at c.bytes 1 (list_of c.bytes (codes "size") pad)) height.0) in
    let small : IsSmall (size_on_board c.bytes pad) =
    small_size c.bytes pad (swapped_small (turns_in c.bytes pad) (drilled_size c.bytes pad) (drilled_small c.bytes pad size drill.0)) in
    record {
      x = near (pad_place c.bytes footprint pad).x far.0;
      y = near (pad_place c.bytes footprint pad).y far.1;
      width = small.0;
      height = small.1;
      ratio = ratio.0;
    }

pub ratio_is : (q : ℤ) (r : ℕ) → is_bad_ratio q ≡ false → r ≡ unwrap_or (kept_ratio q) 0 → r ≡ size_of q
ratio_is q r e h = h ∙ ap (λ b. unwrap_or (cond b None (Some (size_of q))) 0) e

pub ratio_most : (q : ℤ) → is_bad_ratio q ≡ false → size_of q ≤ 5000000000
ratio_most (pos n) e = grind (arith, ints, nat_tests)
ratio_most (negsuc n) e = omega arith
