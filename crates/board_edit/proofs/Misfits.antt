-- The first word that isn't of its form, found place by place; and what forms say of words.
use Rattle.std.proofs.Common.{◌≡◌, ◌∙◌, refl, ap, sym, ℕ, zero, suc, ◌<◌, ◌≤◌, Bool, true, false, List, [], ◌∷◌, map, get_or, drop, length, Option, None, Some, arith}
use Rattle.std.specs.Prelude.{if◌then◌else◌, nat_lt, codes, min}
use Rattle.std.specs.Str.{bytes_eq}
use Rattle.std.proofs.Math.ListN.{drop_of_length-le}
use Rattle.std.proofs.lemmas.Bool.{false≢true, ltb-true, ltb-false}
use Rattle.std.proofs.lemmas.Option.{none-some}
use Rattle.edit_language.specs.declared.edit.EditKind.{EditKind}
use Rattle.edit_language.specs.Lines.{Word}
use Rattle.edit_language.specs.declared.edit.EditKind.TheVariants.{BadWord, TooFewWords, TooManyWords}
use Rattle.edit_language.specs.Forms.{Form, Length, Size, Whole, Name, has_form, is_whole_word, forms_of, fault_for, first_misfit, fault_by, words_fault}
use Rattle.edit_language.specs.Scripts.{word_at, says_first}

none_left : (forms : List Form) → first_misfit forms [] ≡ None
none_left [] = refl
none_left (form ∷ forms) = refl

all_fit : {X Y : Type 0} (f : X → Form) (g : Y → Word) (xs : List X) (ys : List Y) (i : ℕ) → length xs ≤ i → None ≡ first_misfit (map f (drop i xs)) (map g (drop i ys))
all_fit f g xs ys i l = sym (ap (λ k. first_misfit (map f k) (map g (drop i ys))) (drop_of_length-le xs l))

no_more : {X Y : Type 0} (f : X → Form) (g : Y → Word) (xs : List X) (ys : List Y) (i : ℕ) → length ys ≤ i → None ≡ first_misfit (map f (drop i xs)) (map g (drop i ys))
no_more f g xs ys i l = sym (ap (λ k. first_misfit (map f (drop i xs)) (map g k)) (drop_of_length-le ys l) ∙ none_left (map f (drop i xs)))

behind_by : {X Y : Type 0} (f : X → Form) (g : Y → Word) (xs : List X) (ys : List Y) (i m : ℕ) (less : Bool) → nat_lt (length xs) (length ys) ≡ less
    → m ≡ min (length xs) (length ys) → m ≤ i → None ≡ first_misfit (map f (drop i xs)) (map g (drop i ys))
behind_by f g xs ys i m true t e l = let k = ltb-true (length xs) (length ys) t in all_fit f g xs ys i (omega (arith, e, l, k))
behind_by f g xs ys i m false t e l = let k = ltb-false (length xs) (length ys) t in no_more f g xs ys i (omega (arith, e, l, k))

-- where no word is left, or none is wanted any more, all fit
pub none_behind : {X Y : Type 0} (f : X → Form) (g : Y → Word) (xs : List X) (ys : List Y) (i m : ℕ) → m ≡ min (length xs) (length ys) → m ≤ i
    → None ≡ first_misfit (map f (drop i xs)) (map g (drop i ys))
none_behind f g xs ys i m e l = behind_by f g xs ys i m (nat_lt (length xs) (length ys)) refl e l

-- ---- the words of a line without a fault are of their forms

fits_step : (b : Bool) (form : Form) (rest : Option EditKind) → (if b then rest else Some (fault_for form)) ≡ None → (b ≡ true) × (rest ≡ None)
fits_step true form rest e = (refl, e)
fits_step false form rest e = absurd (none-some (fault_for form) (sym e))

fits : (forms : List Form) (words : List Word) → length words ≡ length forms → first_misfit forms words ≡ None → (i : ℕ) → i < length forms
    → has_form (get_or forms i Name) (get_or words i []) ≡ true
fits [] words l e i o = absurd (omega (arith, o))
fits (form ∷ forms) [] l e i o = absurd (omega (arith, l))
fits (form ∷ forms) (word ∷ words) l e zero o = (fits_step (has_form form word) form (first_misfit forms words) e).0
fits (form ∷ forms) (word ∷ words) l e (suc i) o =
    fits forms words (omega (arith, l)) (fits_step (has_form form word) form (first_misfit forms words) e).1 i (omega (arith, o))

sized : (a b : ℕ) (few many : Bool) (rest : Option EditKind) → nat_lt a b ≡ few → nat_lt b a ≡ many
    → (if few then Some TooFewWords else (if many then Some TooManyWords else rest)) ≡ None → (a ≡ b) × (rest ≡ None)
sized a b true many rest p q e = absurd (none-some TooFewWords (sym e))
sized a b false true rest p q e = absurd (none-some TooManyWords (sym e))
sized a b false false rest p q e =
    let l : b ≤ a = ltb-false a b p in
    let m : a ≤ b = ltb-false b a q in
    (omega (arith, l, m), e)

each : (forms : List Form) (words : List Word) → fault_by (Some forms) words ≡ None → (i : ℕ) → i < length forms
    → has_form (get_or forms i Name) (get_or words i []) ≡ true
each forms words e i o =
    let s = sized (length words) (length forms) (nat_lt (length words) (length forms)) (nat_lt (length forms) (length words)) (first_misfit forms words) refl refl e in
    fits forms words s.0 s.1 i o

abbrev track_forms : List Form
track_forms = Length ∷ Length ∷ Length ∷ Length ∷ Size ∷ Name ∷ Whole ∷ Name ∷ []

abbrev via_forms : List Form
via_forms = Length ∷ Length ∷ Size ∷ Size ∷ Name ∷ Name ∷ Whole ∷ Name ∷ []

abbrev others : Bool → Bool → Bool → Option (List Form)
others d p c = if d then Some (Name ∷ []) else (if p then Some (Name ∷ Whole ∷ []) else (if c then Some (Name ∷ Size ∷ []) else None))

abbrev forms_by : Bool → Bool → Bool → Bool → Bool → Option (List Form)
forms_by t v d p c = if t then Some track_forms else (if v then Some via_forms else others d p c)

by_first : (word : Word) (words : List Word) → words_fault (word ∷ words) ≡ None
    → fault_by (forms_by (bytes_eq word (codes "track")) (bytes_eq word (codes "via")) (bytes_eq word (codes "drop")) (bytes_eq word (codes "priority")) (bytes_eq word (codes "clearance"))) words ≡ None
unfolding forms_of
by_first word words e = e

track_at : (words : List Word) (t v d p c : Bool) → t ≡ true → fault_by (forms_by t v d p c) words ≡ None → has_form Whole (get_or words 6 []) ≡ true
track_at words true v d p c e f = each track_forms words f 6 (omega arith)
track_at words false v d p c e f = absurd (false≢true e)

via_at : (words : List Word) (t v d p c : Bool) → v ≡ true → fault_by (forms_by t v d p c) words ≡ None → has_form Whole (get_or words 6 []) ≡ true
via_at words true v d p c e f = each track_forms words f 6 (omega arith)
via_at words false true d p c e f = each via_forms words f 6 (omega arith)
via_at words false false d p c e f = absurd (false≢true e)

priority_at : (words : List Word) (t v d p c : Bool) → t ≡ false → v ≡ false → d ≡ false → p ≡ true → fault_by (forms_by t v d p c) words ≡ None
    → has_form Whole (get_or words 1 []) ≡ true
priority_at words false false false true c e f g h k = each (Name ∷ Whole ∷ []) words k 1 (omega arith)
priority_at words true v d p c e f g h k = absurd (false≢true (sym e))
priority_at words false true d p c e f g h k = absurd (false≢true (sym f))
priority_at words false false true p c e f g h k = absurd (false≢true (sym g))
priority_at words false false false false c e f g h k = absurd (false≢true h)

pub track_whole : (words : List Word) → says_first (codes "track") words ≡ true → words_fault words ≡ None → is_whole_word (word_at 6 words) ≡ true
track_whole [] s e = absurd (none-some BadWord (sym e))
track_whole (word ∷ words) s e = track_at words _ _ _ _ _ s (by_first word words e)

pub via_whole : (words : List Word) → says_first (codes "via") words ≡ true → words_fault words ≡ None → is_whole_word (word_at 6 words) ≡ true
via_whole [] s e = absurd (none-some BadWord (sym e))
via_whole (word ∷ words) s e = via_at words _ _ _ _ _ s (by_first word words e)

pub priority_whole : (words : List Word) → says_first (codes "track") words ≡ false → says_first (codes "via") words ≡ false → says_first (codes "drop") words ≡ false
    → says_first (codes "priority") words ≡ true → words_fault words ≡ None → is_whole_word (word_at 1 words) ≡ true
priority_whole [] t v d s e = absurd (none-some BadWord (sym e))
priority_whole (word ∷ words) t v d s e = priority_at words _ _ _ _ _ t v d s (by_first word words e)
