-- A text has one meaning at most as an area: an area, or one fault.
use Rattle.std.proofs.Common.{◌≡◌, ℕ, ◌≤◌, ◌<◌, Bool, true, List, ◌⊎◌, inl, inr, refl, sym, ◌∙◌, min, arith}
use Rattle.std.proofs.lemmas.Bool.{cases_lt}
use Rattle.grid_num.specs.Spelling.{IsSpelling}
use Rattle.grid_num.specs.Length.{IsWholeNm}
use Rattle.grid_num.specs.Area.{IsArea, HasAreaFault, SpellsNoArea, millionths}
use Rattle.grid_num.specs.Faults.{SpellsTooFine}
use Rattle.grid_num.specs.declared.read.NumFault.{NumFault}
use Rattle.grid_num.specs.declared.read.NumFault.TheVariants.{NotANumber, TooFine, OutOfRange}
use Rattle.grid_num.proofs.Meanings.{same_parts, same_size, same_fine}

pub one_area_of : (text : List ℕ) (area other : ℕ) → IsArea text area → IsArea text other → area ≡ other
one_area_of text area other l k =
    l.value ∙ same_size text l.negative k.negative l.whole k.whole l.fraction k.fraction l.spelling k.spelling ∙ sym k.value

-- a number that is too fine, negative or beyond the range is no area
pub no_area : (text : List ℕ) (n : Bool) (w f : List ℕ) (area : ℕ) → IsSpelling text n w f
    → (IsWholeNm f → millionths w f ≤ 1000000000000 → (n ≡ true → millionths w f ≡ 0) → ⊥) → IsArea text area → ⊥
no_area text n w f area s h l =
    let size = same_size text l.negative n l.whole w l.fraction f l.spelling s in
    let sign = (same_parts text l.negative n l.whole w l.fraction f l.spelling s).0 in
    h (same_fine text l.negative n l.whole w l.fraction f l.spelling s l.fine) (omega (arith, l.range, size)) (λ e. sym size ∙ l.sign (sign ∙ e))

-- what is negative or beyond the range breaks one of the two bounds
out : (n : Bool) (m : ℕ) → ((n ≡ true) × (0 < m)) ⊎ (1000000000000 < m) → m ≤ 1000000000000 → (n ≡ true → m ≡ 0) → ⊥
out n m (inl (e, h)) range sign = omega (arith, h, sign e)
out n m (inr h) range sign = omega (arith, h, range)

pub fault_or_area : (text : List ℕ) (fault : NumFault) (area : ℕ) → HasAreaFault text fault → IsArea text area → ⊥
fault_or_area text NotANumber area h l = h l.negative l.whole l.fraction l.spelling
fault_or_area text TooFine area h l = no_area text h.negative h.whole h.fraction area h.spelling (λ fine range sign. h.too_fine fine) l
fault_or_area text OutOfRange area h l =
    no_area text h.negative h.whole h.fraction area h.spelling (λ fine range sign. out h.negative (millionths h.whole h.fraction) h.beyond range sign) l

fine_and_not : (text : List ℕ) → SpellsTooFine text → SpellsNoArea text → ⊥
fine_and_not text a b = a.too_fine (same_fine text b.negative a.negative b.whole a.whole b.fraction a.fraction b.spelling a.spelling b.fine)

pub one_area_fault_of : (text : List ℕ) (fault other : NumFault) → HasAreaFault text fault → HasAreaFault text other → fault ≡ other
one_area_fault_of text NotANumber NotANumber h k = refl
one_area_fault_of text NotANumber TooFine h k = absurd (h k.negative k.whole k.fraction k.spelling)
one_area_fault_of text NotANumber OutOfRange h k = absurd (h k.negative k.whole k.fraction k.spelling)
one_area_fault_of text TooFine NotANumber h k = absurd (k h.negative h.whole h.fraction h.spelling)
one_area_fault_of text TooFine TooFine h k = refl
one_area_fault_of text TooFine OutOfRange h k = absurd (fine_and_not text h k)
one_area_fault_of text OutOfRange NotANumber h k = absurd (k h.negative h.whole h.fraction h.spelling)
one_area_fault_of text OutOfRange TooFine h k = absurd (fine_and_not text k h)
one_area_fault_of text OutOfRange OutOfRange h k = refl

-- what is out of the range is so where all above the most counts as one more than the most
beyond_by : (n : Bool) (m r : ℕ) → (1000000000000 < m) ⊎ (m ≤ 1000000000000) → r ≡ min 1000000000001 m → (r ≤ 1000000000000 → (n ≡ true) × (0 < r))
    → ((n ≡ true) × (0 < m)) ⊎ (1000000000000 < m)
beyond_by n m r (inl h) is miss = inr h
beyond_by n m r (inr h) is miss =
    let out = miss (omega (arith, h, is)) in
    inl (out.0, omega (arith, out.1, is))

pub beyond_of : (n : Bool) (m r : ℕ) → r ≡ min 1000000000001 m → (r ≤ 1000000000000 → (n ≡ true) × (0 < r)) → ((n ≡ true) × (0 < m)) ⊎ (1000000000000 < m)
beyond_of n m r is miss = beyond_by n m r (cases_lt 1000000000000 m) is miss

pub none_within : (n : Bool) (m r : ℕ) → r ≡ min 1000000000001 m → m ≤ 1000000000000 → (n ≡ true → m ≡ 0) → (r ≤ 1000000000000 → (n ≡ true) × (0 < r)) → ⊥
none_within n m r is range sign miss =
    let out = miss (omega (arith, range, is)) in
    omega (arith, out.1, is, sign out.0)
