-- The values of an edit that some line gives are of their form.
use Rattle.std.proofs.Common.{◌≡◌, refl, sym, subst, ℕ, zero, suc, ◌≤◌, ◌<◌, ◌^◌, Bool, true, false, not, drop, List, [], ◌∷◌, length, get_or, Option, None, Some, arith}
use Rattle.std.specs.Prelude.{if◌then◌else◌, nat_lt, codes, ℤ, pos}
use Rattle.std.specs.Str.{bytes_eq}
use Rattle.std.proofs.lemmas.Int.{ints}
use Rattle.std.proofs.lemmas.Bool.{and_parts, ltb-true, ltb-false}
use Rattle.std.proofs.lemmas.Option.{none-some}
use Rattle.grid_num.specs.Spelling.{number}
use Rattle.grid_num.specs.Length.{IsInRange, nanometres, with_sign}
use Rattle.grid_num.specs.Parts.{whole_of, fraction_of}
use Rattle.grid_num.specs.declared.read.NumFault.TheVariants.{NotANumber, TooFine, OutOfRange}
use Rattle.board_text.specs.Numbers.{is_decimal, is_negative, are_zeros, or_zero, length_fault, length_of}
use Rattle.board_text.specs.Items.{size_of}
use Rattle.edit_language.specs.declared.edit.Edit.TheVariants.{Drop, Priority, Clearance}
use Rattle.edit_language.specs.declared.edit.EditKind.{EditKind}
use Rattle.edit_language.specs.declared.edit.EditKind.TheVariants.{BadWord, TooFewWords, TooManyWords}
use Rattle.edit_language.specs.Lines.{Word, Line}
use Rattle.edit_language.specs.Forms.{Form, Length, Size, Whole, Name, is_whole_word, has_form, forms_of, fault_for, first_misfit, fault_by, words_fault}
use Rattle.edit_language.specs.Scripts.{track_edit, via_edit, word_at, whole_at, size_at, edit_of, IsSize, IsWholeNumber, IsFormed}
use Rattle.edit_language.specs.Laws.{WrittenLaw}

-- ---- lengths

in_range : (negative : Bool) (n : ℕ) → n ≤ 500000000 → IsInRange (with_sign negative n)
in_range true n l = omega (arith, ints, l)
in_range false n l = omega (arith, ints, l)

small : (negative : Bool) (n : ℕ) → n ≤ 500000000 → size_of (with_sign negative n) ≤ 500000000
small true zero l = omega (arith, ints)
small true (suc n) l = omega (arith, ints)
small false n l = l

-- ---- the words of a line fit their forms

fits_step : (b : Bool) (form : Form) (rest : Option EditKind) → (if b then rest else Some (fault_for form)) ≡ None → (b ≡ true) × (rest ≡ None)
fits_step true form rest e = (refl, e)
fits_step false form rest e = absurd (none-some (fault_for form) (sym e))

fits : (forms : List Form) (words : List Word) → length words ≡ length forms → first_misfit forms words ≡ None → (i : ℕ) → i < length forms
    → has_form (get_or forms i Name) (get_or words i []) ≡ true
fits [] words l e i o = absurd (omega (arith, o))
fits (form ∷ forms) [] l e i o = absurd (omega (arith, l))
fits (form ∷ forms) (word ∷ words) l e zero o = (fits_step (has_form form word) form (first_misfit forms words) e).0
fits (form ∷ forms) (word ∷ words) l e (suc i) o =
    fits forms words (omega (arith, l)) (fits_step (has_form form word) form (first_misfit forms words) e).1 i (omega (arith, o))

sized : (a b : ℕ) (few many : Bool) (rest : Option EditKind) → nat_lt a b ≡ few → nat_lt b a ≡ many
    → (if few then Some TooFewWords else (if many then Some TooManyWords else rest)) ≡ None → (a ≡ b) × (rest ≡ None)
sized a b true many rest p q e = absurd (none-some TooFewWords (sym e))
sized a b false true rest p q e = absurd (none-some TooManyWords (sym e))
sized a b false false rest p q e =
    let l : b ≤ a = ltb-false a b p in
    let m : a ≤ b = ltb-false b a q in
    (omega (arith, l, m), e)

each : (forms : List Form) (words : List Word) → fault_by (Some forms) words ≡ None → (i : ℕ) → i < length forms
    → has_form (get_or forms i Name) (get_or words i []) ≡ true
each forms words e i o =
    let s = sized (length words) (length forms) (nat_lt (length words) (length forms)) (nat_lt (length forms) (length words)) (first_misfit forms words) refl refl e in
    fits forms words s.0 s.1 i o

whole_small : (word : Word) → is_whole_word word ≡ true → IsWholeNumber (number word)
whole_small word e = ltb-true (number word) (2 ^ 32) (and_parts _ (nat_lt (number word) (2 ^ 32)) e).1

-- ---- lengths that are read

-- what has no fault, or counts as 0, is at most 500 mm
bounded : (text : Word) (b c d : Bool) → nat_lt 500000000 (nanometres (whole_of text) (fraction_of text)) ≡ d
    → (P : ℤ → Type 0) → P (pos 0) → (nanometres (whole_of text) (fraction_of text) ≤ 500000000 → P (with_sign (is_negative text) (nanometres (whole_of text) (fraction_of text))))
    → P (or_zero (with_sign (is_negative text) (nanometres (whole_of text) (fraction_of text))) (pos 0)
    (if b then Some NotANumber else (if c then Some TooFine else (if d then Some OutOfRange else None))))
bounded text true c d e P z h = z
bounded text false true d e P z h = z
bounded text false false true e P z h = z
bounded text false false false e P z h = h (ltb-false 500000000 (nanometres (whole_of text) (fraction_of text)) e)

length_bounded : (text : Word) (P : ℤ → Type 0) → P (pos 0)
    → (nanometres (whole_of text) (fraction_of text) ≤ 500000000 → P (with_sign (is_negative text) (nanometres (whole_of text) (fraction_of text))))
    → P (length_of text)
unfolding length_of length_fault
length_bounded text P z h =
    bounded text (not (is_decimal text)) (not (are_zeros (drop 6 (fraction_of text)))) (nat_lt 500000000 (nanometres (whole_of text) (fraction_of text))) refl P z h

place : (text : Word) → IsInRange (length_of text)
place text = length_bounded text IsInRange (omega (arith, ints), omega (arith, ints)) (in_range (is_negative text) (nanometres (whole_of text) (fraction_of text)))

size : (text : Word) → IsSize (size_of (length_of text))
size text = length_bounded text (λ z. IsSize (size_of z)) (omega arith) (small (is_negative text) (nanometres (whole_of text) (fraction_of text)))

-- ---- the edits

track : (word : Word) (words : List Word)
    → fault_by (Some (Length ∷ Length ∷ Length ∷ Length ∷ Size ∷ Name ∷ Whole ∷ Name ∷ [])) words ≡ None → IsFormed (track_edit (word ∷ words))
unfolding IsFormed
track word words e =
    let f = each (Length ∷ Length ∷ Length ∷ Length ∷ Size ∷ Name ∷ Whole ∷ Name ∷ []) words e in (
      (place (get_or words 0 []), place (get_or words 1 [])),
      (place (get_or words 2 []), place (get_or words 3 [])),
      size (get_or words 4 []),
      f 5 (omega arith),
      whole_small (get_or words 6 []) (f 6 (omega arith)),
      f 7 (omega arith),
    )

via : (word : Word) (words : List Word)
    → fault_by (Some (Length ∷ Length ∷ Size ∷ Size ∷ Name ∷ Name ∷ Whole ∷ Name ∷ [])) words ≡ None → IsFormed (via_edit (word ∷ words))
unfolding IsFormed
via word words e =
    let f = each (Length ∷ Length ∷ Size ∷ Size ∷ Name ∷ Name ∷ Whole ∷ Name ∷ []) words e in (
      (place (get_or words 0 []), place (get_or words 1 [])),
      size (get_or words 2 []),
      size (get_or words 3 []),
      f 4 (omega arith),
      f 5 (omega arith),
      whole_small (get_or words 6 []) (f 6 (omega arith)),
      f 7 (omega arith),
    )

drop_edit : (word : Word) (words : List Word) → fault_by (Some (Name ∷ [])) words ≡ None → IsFormed (Drop (word_at 0 (word ∷ words)))
unfolding IsFormed
drop_edit word words e = each (Name ∷ []) words e 0 (omega arith)

priority : (word : Word) (words : List Word) → fault_by (Some (Name ∷ Whole ∷ [])) words ≡ None
    → IsFormed (Priority (word_at 0 (word ∷ words)) (whole_at 1 (word ∷ words)))
unfolding IsFormed
priority word words e =
    let f = each (Name ∷ Whole ∷ []) words e in
    (f 0 (omega arith), whole_small (get_or words 1 []) (f 1 (omega arith)))

clearance : (word : Word) (words : List Word) → fault_by (Some (Name ∷ Size ∷ [])) words ≡ None
    → IsFormed (Clearance (word_at 0 (word ∷ words)) (size_at 1 (word ∷ words)))
unfolding IsFormed
clearance word words e = (each (Name ∷ Size ∷ []) words e 0 (omega arith), size (get_or words 1 []))

by_first : (word : Word) (words : List Word) (t v d p c : Bool)
    → fault_by
    (if t then Some (Length ∷ Length ∷ Length ∷ Length ∷ Size ∷ Name ∷ Whole ∷ Name ∷ [])
    else (if v then Some (Length ∷ Length ∷ Size ∷ Size ∷ Name ∷ Name ∷ Whole ∷ Name ∷ [])
    else (if d then Some (Name ∷ [])
    else (if p then Some (Name ∷ Whole ∷ []) else (if c then Some (Name ∷ Size ∷ []) else None))))) words ≡ None
    → IsFormed
    (if t then track_edit (word ∷ words)
    else (if v then via_edit (word ∷ words)
    else (if d then Drop (word_at 0 (word ∷ words))
    else (if p then Priority (word_at 0 (word ∷ words)) (whole_at 1 (word ∷ words)) else Clearance (word_at 0 (word ∷ words)) (size_at 1 (word ∷ words))))))
by_first word words true v d p c e = track word words e
by_first word words false true d p c e = via word words e
by_first word words false false true p c e = drop_edit word words e
by_first word words false false false true c e = priority word words e
by_first word words false false false false true e = clearance word words e
by_first word words false false false false false e = absurd (none-some BadWord (sym e))

abbrev line_with : ℕ → List Word → Line
line_with number words = record { number = number; words = words }

formed : (number : ℕ) (words : List Word) → words_fault words ≡ None → IsFormed (edit_of (line_with number words))
unfolding edit_of forms_of
formed number [] e = absurd (none-some BadWord (sym e))
formed number (word ∷ words) e =
    by_first word words (bytes_eq word (codes "track")) (bytes_eq word (codes "via")) (bytes_eq word (codes "drop")) (bytes_eq word (codes "priority")) (bytes_eq word (codes "clearance")) e

pub written : WrittenLaw
written edit w = subst IsFormed (sym w.edit_is) (formed w.line.number w.line.words w.sound)
