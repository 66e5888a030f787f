-- A text has one meaning at most: a length, or one fault.
use Rattle.std.proofs.Common.{◌≡◌, ℕ, ◌≤◌, Bool, List, refl, sym, ap, ◌∙◌, subst, arith, ℤ, min}
use Rattle.grid_num.specs.Spelling.{IsSpelling, number, number_after}
use Rattle.grid_num.specs.Length.{IsLength, IsWholeNm, nanometres, places, with_sign}
use Rattle.grid_num.specs.Faults.{HasFault, SpellsTooFine, SpellsBeyond}
use Rattle.grid_num.specs.declared.read.NumFault.{NumFault}
use Rattle.grid_num.specs.declared.read.NumFault.TheVariants.{NotANumber, TooFine, OutOfRange}
use Rattle.grid_num.proofs.Capped.{capped_alike, number_append}
use Rattle.grid_num.proofs.Cutting.{parts_are, AreParts}

-- a text has one sign, whole digits and fraction
pub same_parts : (text : List ℕ) (n m : Bool) (w v f g : List ℕ) → IsSpelling text n w f → IsSpelling text m v g → (n ≡ m) × (w ≡ v) × (f ≡ g)
same_parts text n m w v f g s t =
    let p : AreParts text n w f = parts_are text n w f s in
    let q : AreParts text m v g = parts_are text m v g t in
    (p.negative_is ∙ sym q.negative_is, p.whole_is ∙ sym q.whole_is, p.fraction_is ∙ sym q.fraction_is)

pub same_size : (text : List ℕ) (n m : Bool) (w v f g : List ℕ) → IsSpelling text n w f → IsSpelling text m v g → nanometres w f ≡ nanometres v g
same_size text n m w v f g s t =
    let e = same_parts text n m w v f g s t in
    ap (λ x. nanometres x f) e.1 ∙ ap (λ x. nanometres v x) e.2

pub same_fine : (text : List ℕ) (n m : Bool) (w v f g : List ℕ) → IsSpelling text n w f → IsSpelling text m v g → IsWholeNm f → IsWholeNm g
same_fine text n m w v f g s t h = subst IsWholeNm (same_parts text n m w v f g s t).2 h

pub one_length_of : (text : List ℕ) (nm other : ℤ) → IsLength text nm → IsLength text other → nm ≡ other
one_length_of text nm other l k =
    let e = same_parts text l.negative k.negative l.whole k.whole l.fraction k.fraction l.spelling k.spelling in
    let size = same_size text l.negative k.negative l.whole k.whole l.fraction k.fraction l.spelling k.spelling in
    l.value ∙ ap (λ n. with_sign n (nanometres l.whole l.fraction)) e.0 ∙ ap (with_sign k.negative) size ∙ sym k.value

-- a number that is too fine or beyond the range is no length
pub no_length : (text : List ℕ) (n : Bool) (w f : List ℕ) (nm : ℤ) → IsSpelling text n w f → (IsWholeNm f → nanometres w f ≤ 500000000 → ⊥) → IsLength text nm → ⊥
no_length text n w f nm s h l =
    h (same_fine text l.negative n l.whole w l.fraction f l.spelling s l.fine) (omega (arith, l.range, same_size text l.negative n l.whole w l.fraction f l.spelling s))

pub fault_or_length : (text : List ℕ) (fault : NumFault) (nm : ℤ) → HasFault text fault → IsLength text nm → ⊥
fault_or_length text NotANumber nm h l = h l.negative l.whole l.fraction l.spelling
fault_or_length text TooFine nm h l = no_length text h.negative h.whole h.fraction nm h.spelling (λ fine range. h.too_fine fine) l
fault_or_length text OutOfRange nm h l = no_length text h.negative h.whole h.fraction nm h.spelling (λ fine range. omega (arith, h.beyond, range)) l

fine_and_not : (text : List ℕ) → SpellsTooFine text → SpellsBeyond text → ⊥
fine_and_not text a b = a.too_fine (same_fine text b.negative a.negative b.whole a.whole b.fraction a.fraction b.spelling a.spelling b.fine)

pub one_fault_of : (text : List ℕ) (fault other : NumFault) → HasFault text fault → HasFault text other → fault ≡ other
one_fault_of text NotANumber NotANumber h k = refl
one_fault_of text NotANumber TooFine h k = absurd (h k.negative k.whole k.fraction k.spelling)
one_fault_of text NotANumber OutOfRange h k = absurd (h k.negative k.whole k.fraction k.spelling)
one_fault_of text TooFine NotANumber h k = absurd (k h.negative h.whole h.fraction h.spelling)
one_fault_of text TooFine TooFine h k = refl
one_fault_of text TooFine OutOfRange h k = absurd (fine_and_not text h k)
one_fault_of text OutOfRange NotANumber h k = absurd (k h.negative h.whole h.fraction h.spelling)
one_fault_of text OutOfRange TooFine h k = absurd (fine_and_not text k h)
one_fault_of text OutOfRange OutOfRange h k = refl

pub capped_size : (most : ℕ) (whole fraction : List ℕ) → min most (number_after (min most (number_after 0 whole)) (places fraction)) ≡ min most (nanometres whole fraction)
capped_size most whole fraction =
    capped_alike most (min most (number whole)) (number whole) (places fraction) (omega arith) ∙ ap (λ n. min most n) (sym (number_append 0 whole (places fraction)))
