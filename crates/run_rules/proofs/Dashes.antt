-- Where `-` stands behind an option whose value is the next word, the words give nothing.
use Rattle.std.proofs.Common.{◌≡◌, ◌∙◌, ap, sym, subst, refl, Bool, true, false, List, [], ◌∷◌, length, map, take, drop, ◌-◌, Option, None, Some, String, ◌≤◌, arith}
use Rattle.std.specs.Prelude.{not, ◌&&◌, ◌||◌, option_map, is_some, if◌then◌else◌}
use Rattle.std.specs.Str.{bytes_eq}
use Rattle.std.specs.String.{string_bytes}
use Rattle.std.proofs.lemmas.Slice.Eq.{bytes_eq-Decides}
use Rattle.std.proofs.lemmas.List.{take_all}
use lib.Chars.{codes}
use Rattle.run_rules.specs.declared.words.Flag.{Flag}
use Rattle.run_rules.specs.declared.words.Flag.TheVariants.{Threads, Clearance, EdgeClearance}
use Rattle.run_rules.specs.Words.{GivenWord, Given, name_before, setting_before, is_option, begins_with_dash, flag_of, has_equals, joined_flag, joined_value, given_by, given_behind, wanted_as, wanted}
use Rattle.run_rules.specs.Words.Wanted.{Wrong}
use Rattle.run_rules.specs.declared.words.UsageFault.TheVariants as fault
use Rattle.run_rules.specs.Inner.Line.{is_dash_first, has_dash_value}

-- ---- words that begin with `-`, or don't

no_dashes : (word : GivenWord) → begins_with_dash word ≡ false → (bytes_eq word (codes "--") ≡ false) × (is_option word ≡ false)
no_dashes [] e = (refl, refl)
no_dashes (c ∷ []) e = (rw e refl, refl)
no_dashes (c ∷ d ∷ rest) e = (rw e refl, e)

dash_begins : (word : GivenWord) → bytes_eq word (codes "-") ≡ true → begins_with_dash word ≡ true
dash_begins word e = ap begins_with_dash ((bytes_eq-Decides word (codes "-")).0 e)

IsBare : GivenWord → Type 0
IsBare word = (is_option word ≡ true) × (has_equals word ≡ false)

-- an option's word, whole
bare_option : (word : GivenWord) → is_some (flag_of word) ≡ true → IsBare word
unfolding IsBare
bare_option word h = go (bytes_eq word (codes "--threads")) (bytes_eq word (codes "--clearance")) (bytes_eq word (codes "--edge-clearance")) refl refl refl h
  where
    is : (text : GivenWord) → bytes_eq word text ≡ true → (is_option text ≡ true) × (has_equals text ≡ false) → (is_option word ≡ true) × (has_equals word ≡ false)
    is text e g = subst (λ t. (is_option t ≡ true) × (has_equals t ≡ false)) (sym ((bytes_eq-Decides word text).0 e)) g

    go : (a b c : Bool) → bytes_eq word (codes "--threads") ≡ a → bytes_eq word (codes "--clearance") ≡ b → bytes_eq word (codes "--edge-clearance") ≡ c
        → is_some (if a then Some Threads else (if b then Some Clearance else (if c then Some EdgeClearance else None))) ≡ true
        → (is_option word ≡ true) × (has_equals word ≡ false)
    go true b c e f g h = is (codes "--threads") e (refl, refl)
    go false true c e f g h = is (codes "--clearance") f (refl, refl)
    go false false true e f g h = is (codes "--edge-clearance") g (refl, refl)
    go false false false e f g h = absurd (cc h)

-- ---- words that give nothing

none_mapped : (word : GivenWord) (o : Option Given) → option_map (name_before word) o ≡ None → o ≡ None
none_mapped word None e = refl
none_mapped word (Some g) e = absurd (cc e)

none_set : (flag : Option Flag) (value : GivenWord) (o : Option Given) → o ≡ None → setting_before flag value o ≡ None
none_set flag value o e = rw e refl

none_behind : (flag : Option Flag) (words : List GivenWord) → given_by words ≡ None → given_behind flag words ≡ None
unfolding given_by
none_behind flag [] e = refl
none_behind flag (value ∷ words) e = go (begins_with_dash value) refl
  where
    go : (b : Bool) → begins_with_dash value ≡ b → given_behind flag (value ∷ words) ≡ None
    go true b = rw b refl
    go false b =
        let parts = no_dashes value b in
        let rest : option_map (name_before value) (given_by words) ≡ None = rw (parts.0, parts.1) at e in
        rw b (none_set flag value (given_by words) (none_mapped value (given_by words) rest))

none_before : (word : GivenWord) (words : List GivenWord) → bytes_eq word (codes "--") ≡ false → given_by words ≡ None → given_by (word ∷ words) ≡ None
unfolding given_by
none_before word words d e = go (is_option word) (has_equals word) refl refl
  where
    go : (o q : Bool) → is_option word ≡ o → has_equals word ≡ q → given_by (word ∷ words) ≡ None
    go false q f g = rw (d, f) (rw e refl)
    go true true f g = rw (d, f, g) (none_set (joined_flag word) (joined_value word) (given_by words) e)
    go true false f g = rw (d, f, g) (none_behind (flag_of word) words e)

dash_behind : (flag : Option Flag) (words : List GivenWord) → is_dash_first words ≡ true → given_behind flag words ≡ None
unfolding given_by
dash_behind flag [] e = absurd (cc e)
dash_behind flag (value ∷ words) e = rw (dash_begins value e) refl

dash_next : (word : GivenWord) (words : List GivenWord) → bytes_eq word (codes "--") ≡ false → is_some (flag_of word) ≡ true → is_dash_first words ≡ true
    → given_by (word ∷ words) ≡ None
unfolding given_by IsBare
dash_next word words d f e =
    let whole = bare_option word f in
    rw (d, whole.0, whole.1) (dash_behind (flag_of word) words e)

pub dash_gives_none : (words : List GivenWord) → has_dash_value words ≡ true → None ≡ given_by words
unfolding has_dash_value
dash_gives_none [] e = absurd (cc e)
dash_gives_none (word ∷ words) e =
    sym (go (bytes_eq word (codes "--")) (is_some (flag_of word)) (is_dash_first words) (has_dash_value words) refl refl refl refl e (dash_gives_none words))
  where
    go : (d f n h : Bool) → bytes_eq word (codes "--") ≡ d → is_some (flag_of word) ≡ f → is_dash_first words ≡ n → has_dash_value words ≡ h
        → (not d && ((f && n) || h)) ≡ true → (has_dash_value words ≡ true → None ≡ given_by words) → given_by (word ∷ words) ≡ None
    go true f n h a b c g e ih = absurd (cc e)
    go false true true h a b c g e ih = dash_next word words a b c
    go false true false h a b c g e ih = none_before word words a (sym (ih (g ∙ e)))
    go false false n h a b c g e ih = none_before word words a (sym (ih (g ∙ e)))

-- such words are of no command's form
pub dash_refused : {Z : Type 0} (all : List (String Z)) → 1 ≤ length all → has_dash_value (map string_bytes (take (length all - 1) (drop 1 all))) ≡ true
    → wanted (map string_bytes all) ≡ Wrong fault.Words
unfolding wanted
dash_refused [] l e = absurd (omega (arith, l))
dash_refused (word ∷ words) l e =
    let whole : length words ≤ length (word ∷ words) - 1 = omega arith in
    let there = ap (λ ws. has_dash_value (map string_bytes ws)) (sym (take_all (length (word ∷ words) - 1) words whole)) ∙ e in
    ap (wanted_as (string_bytes word)) (sym (dash_gives_none (map string_bytes words) there))
