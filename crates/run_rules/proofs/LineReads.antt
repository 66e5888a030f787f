-- A parse of all words finds what the reader of words reads.
use Rattle.std.proofs.Common.{◌≡◌, ◌∙◌, ap, sym, subst, refl, Bool, true, false, List, [], ◌∷◌, ◌++◌, Option, None, Some}
use Rattle.std.specs.Prelude.{not, ◌&&◌, ◌||◌, ◌==◌, option_map, option_and_then, is_some}
use Rattle.std.specs.Str.{bytes_eq}
use Rattle.std.proofs.lemmas.Slice.Eq.{bytes_eq-Decides}
use lib.Chars.{codes}
use Rattle.clap.specs.Walk.{Text, Row, Waiting, Walk, idle, option, positional, used, settled_rows, reading_by}
use Rattle.clap.specs.Kinds.{Kinds, or_else}
use Rattle.clap.specs.Faults.{use_fault}
use Rattle.clap.specs.declared.error.kind.ErrorKind.TheVariants as kind
use Rattle.run_rules.specs.declared.words.Flag.{Flag}
use Rattle.run_rules.proofs.Reader.{WordPlace, Anywhere, AtValue, Behind}
use Rattle.run_rules.specs.Words.{GivenWord, Given, Settings, has_flag, with_value, is_option, begins_with_dash, flag_of, has_equals, joined_flag, joined_value}
use Rattle.run_rules.proofs.Reader.{with_word, with_words, given_in}
use Rattle.run_rules.specs.Inner.Line.{is_dash_first, has_dash_value}
use Rattle.run_rules.specs.Inner.Line.{long_name}
use Rattle.run_rules.proofs.LineRules.{rules, one_value, one_name}
use Rattle.run_rules.proofs.LineRows.{Holds, name_held, flag_held, row_is_flag}
use Rattle.run_rules.proofs.LineWords.{Class, class, dashes, plain, apart, joined, short, flag_long, long_found}
use Rattle.run_rules.proofs.LineSteps.{at, pending_fault, is_idle, name_behind, name_behind_fault, dashes_met, dashes_fault, name_met, name_fault, joined_met, joined_fault, apart_met, apart_fault, unknown_fault, short_fault, value_met, value_fault}
use Rattle.run_rules.proofs.LineEnds.{Ends, next, now, lost, IsReadable, AreReadable, use_once, use_twice, unfilled, filled_fault, filled_rows}

-- what the reader gives in the end
abbrev pub result : WordPlace → List GivenWord → Settings → List GivenWord → Option Given
result stand names s words = option_and_then given_in (with_words (record { stand = stand; names = names; settings = s }) words)

-- nothing that is pending is wrong, and the rows hold what was read
abbrev pub Ready : List Row → Option (Text × List Text) → List GivenWord → Settings → Type 0
Ready rows p names s = (pending_fault rows p ≡ []) × Holds (settled_rows rules p rows) names s

pub record Reads (words : List GivenWord) : Type 0 where
  pub anywhere : (rows : List Row) (p : Option (Text × List Text)) (waiting : Waiting) (names : List GivenWord) (s : Settings)
      → is_idle waiting ≡ true → has_dash_value words ≡ false → Ready rows p names s → Ends (result Anywhere names s words) (at rows p waiting false) words
  pub value : (flag : Flag) (rows : List Row) (names : List GivenWord) (s : Settings) → has_dash_value words ≡ false → is_dash_first words ≡ false → Holds rows names s
      → Ends (result (AtValue flag) names s words) (at rows (Some (long_name flag, [])) (option (long_name flag)) false) words
  pub behind : (rows : List Row) (p : Option (Text × List Text)) (waiting : Waiting) (names : List GivenWord) (s : Settings)
      → Ready rows p names s → Ends (result Behind names s words) (at rows p waiting true) words

-- ---- what is ready

name_ready : (rows : List Row) (names : List GivenWord) (s : Settings) (word : GivenWord) → Holds rows names s → Ready rows (Some (codes "names", word ∷ [])) (names ++ word ∷ []) s
name_ready rows names s word h = (refl, name_held rows names s (reading_by one_name) word h)

joined_ready : (flag : Flag) (rows : List Row) (names : List GivenWord) (s : Settings) (v : GivenWord) → has_flag flag s ≡ false → Holds rows names s
    → Ready (used (one_value flag) (v ∷ []) rows) None names (with_value flag v s)
joined_ready flag rows names s v e h = (refl, flag_held rows names s (reading_by (one_value flag)) flag v e h)

value_ready : (flag : Flag) (rows : List Row) (names : List GivenWord) (s : Settings) (v : GivenWord) → has_flag flag s ≡ false → Holds rows names s
    → Ready rows (Some (long_name flag, v ∷ [])) names (with_value flag v s)
value_ready flag rows names s v e h = (
  filled_fault flag v rows ∙ use_once flag v rows (row_is_flag rows names s flag h ∙ e),
  subst (λ rs. Holds rs names (with_value flag v s)) (sym (filled_rows flag v rows)) (flag_held rows names s (reading_by (one_value flag)) flag v e h),
)

-- ---- dashes

dash_rest : (word : GivenWord) (rest : List GivenWord) → bytes_eq word (codes "--") ≡ false → has_dash_value (word ∷ rest) ≡ false → has_dash_value rest ≡ false
unfolding has_dash_value
dash_rest word rest d e = go (bytes_eq word (codes "--")) (is_some (flag_of word) && is_dash_first rest) (has_dash_value rest) d e
  where
    go : (b x y : Bool) → b ≡ false → (not b && (x || y)) ≡ false → y ≡ false
    go true x y f h = absurd (cc f)
    go false true y f h = absurd (cc h)
    go false false y f h = h

dash_next : (word : GivenWord) (rest : List GivenWord) (flag : Flag) → bytes_eq word (codes "--") ≡ false → flag_of word ≡ Some flag → has_dash_value (word ∷ rest) ≡ false
    → is_dash_first rest ≡ false
unfolding has_dash_value
dash_next word rest flag d f e = go (bytes_eq word (codes "--")) (is_some (flag_of word)) (is_dash_first rest) (has_dash_value rest) d (ap is_some f) e
  where
    go : (b x y z : Bool) → b ≡ false → x ≡ true → (not b && ((x && y) || z)) ≡ false → y ≡ false
    go true x y z f g h = absurd (cc f)
    go false false y z f g h = absurd (cc g)
    go false true true z f g h = absurd (cc h)
    go false true false z f g h = refl

option_begins : (word : GivenWord) → is_option word ≡ true → begins_with_dash word ≡ true
option_begins [] e = absurd (cc e)
option_begins (c ∷ []) e = absurd (cc e)
option_begins (c ∷ d ∷ rest) e = e

dashes_begin : (word : GivenWord) → bytes_eq word (codes "--") ≡ true → begins_with_dash word ≡ true
dashes_begin word e = ap begins_with_dash ((bytes_eq-Decides word (codes "--")).0 e)

name_begins : (word : GivenWord) → is_option word ≡ false → bytes_eq word (codes "-") ≡ false → begins_with_dash word ≡ false
name_begins [] o e = refl
name_begins (c ∷ []) o e = go (c == 45) e
  where
    go : (b : Bool) → (b && true) ≡ false → b ≡ false
    go true h = absurd (cc h)
    go false h = refl
name_begins (c ∷ d ∷ rest) o e = o

-- ---- what the reader makes of a word

module _ (word : GivenWord) (rest names : List GivenWord) (s : Settings) where
  read_dashes : bytes_eq word (codes "--") ≡ true → result Behind names s rest ≡ result Anywhere names s (word ∷ rest)
  unfolding with_words with_word
  read_dashes d = rw d refl

  read_name : bytes_eq word (codes "--") ≡ false → is_option word ≡ false → result Anywhere (names ++ word ∷ []) s rest ≡ result Anywhere names s (word ∷ rest)
  unfolding with_words with_word
  read_name d o = rw (d, o) refl

  read_behind : result Behind (names ++ word ∷ []) s rest ≡ result Behind names s (word ∷ rest)
  unfolding with_words with_word
  read_behind = refl

  read_joined : (flag : Flag) (value : GivenWord) → bytes_eq word (codes "--") ≡ false → is_option word ≡ true → has_equals word ≡ true → joined_flag word ≡ Some flag
      → joined_value word ≡ value → has_flag flag s ≡ false → result Anywhere names (with_value flag value s) rest ≡ result Anywhere names s (word ∷ rest)
  unfolding with_words with_word
  read_joined flag value d o q f g e = rw (d, o, q) (rw (f, g) (rw e refl))

  read_twice : (flag : Flag) → bytes_eq word (codes "--") ≡ false → is_option word ≡ true → has_equals word ≡ true → joined_flag word ≡ Some flag
      → has_flag flag s ≡ true → None ≡ result Anywhere names s (word ∷ rest)
  unfolding with_words with_word
  read_twice flag d o q f e = rw (d, o, q) (rw f (rw e refl))

  read_unknown : bytes_eq word (codes "--") ≡ false → is_option word ≡ true → has_equals word ≡ true → joined_flag word ≡ None → None ≡ result Anywhere names s (word ∷ rest)
  unfolding with_words with_word
  read_unknown d o q f = rw (d, o, q) (rw f refl)

  read_apart : (flag : Flag) → bytes_eq word (codes "--") ≡ false → is_option word ≡ true → has_equals word ≡ false → flag_of word ≡ Some flag
      → result (AtValue flag) names s rest ≡ result Anywhere names s (word ∷ rest)
  unfolding with_words with_word
  read_apart flag d o q f = rw (d, o, q) (rw f refl)

  read_no_flag : bytes_eq word (codes "--") ≡ false → is_option word ≡ true → has_equals word ≡ false → flag_of word ≡ None → None ≡ result Anywhere names s (word ∷ rest)
  unfolding with_words with_word
  read_no_flag d o q f = rw (d, o, q) (rw f refl)

  read_short : bytes_eq word (codes "--") ≡ false → is_option word ≡ true → flag_of word ≡ None → joined_flag word ≡ None → None ≡ result Anywhere names s (word ∷ rest)
  read_short d o f g = go (has_equals word) refl
    where
      go : (b : Bool) → has_equals word ≡ b → None ≡ result Anywhere names s (word ∷ rest)
      go true q = read_unknown d o q g
      go false q = read_no_flag d o q f

  read_no_value : (flag : Flag) → begins_with_dash word ≡ true → None ≡ result (AtValue flag) names s (word ∷ rest)
  unfolding with_words with_word
  read_no_value flag b = rw b refl

  read_value : (flag : Flag) → begins_with_dash word ≡ false → has_flag flag s ≡ false → result Anywhere names (with_value flag word s) rest ≡ result (AtValue flag) names s (word ∷ rest)
  unfolding with_words with_word
  read_value flag b e = rw b (rw e refl)

  read_again : (flag : Flag) → begins_with_dash word ≡ false → has_flag flag s ≡ true → None ≡ result (AtValue flag) names s (word ∷ rest)
  unfolding with_words with_word
  read_again flag b e = rw b (rw e refl)

-- ---- one word

ends : (o q : Option Given) (w : Walk) (words : List Text) → o ≡ q → Ends o w words → Ends q w words
ends o q w words e h = subst (λ r. Ends r w words) e h

option_known : (name : Text) (flag : Option Flag) → flag_long name ≡ flag → Rattle.clap.specs.Walk.arg_by_long rules name ≡ option_map one_value flag
option_known name flag e = long_found name ∙ ap (option_map one_value) e

module _ (word : GivenWord) (rest : List GivenWord) (readable : IsReadable word) (later : AreReadable rest) (ih : Reads rest) where
  behind_word : (rows : List Row) (p : Option (Text × List Text)) (waiting : Waiting) (names : List GivenWord) (s : Settings)
      → Ready rows p names s → Ends (result Behind names s (word ∷ rest)) (at rows p waiting true) (word ∷ rest)
  behind_word rows p waiting names s r =
      ends (result Behind (names ++ word ∷ []) s rest) _ (at rows p waiting true) (word ∷ rest) (read_behind word rest names s)
      (next _ (at rows p waiting true) _ word rest (name_behind_fault rows p word waiting ∙ r.0) (name_behind rows p word waiting)
      (ih.behind _ _ positional (names ++ word ∷ []) s (name_ready _ names s word r.1)))

  module _ (rows : List Row) (p : Option (Text × List Text)) (waiting : Waiting) (names : List GivenWord) (s : Settings)
      (i : is_idle waiting ≡ true) (n : has_dash_value (word ∷ rest) ≡ false) (r : Ready rows p names s) where
    anywhere_joined : (name value : Text) (flag : Option Flag) → bytes_eq word (codes "--") ≡ false → is_option word ≡ true
        → Rattle.clap.specs.Lexer.long_of word ≡ Some (name, Some value) → has_equals word ≡ true → joined_flag word ≡ flag_long name → joined_value word ≡ value
        → flag_long name ≡ flag → Ends (result Anywhere names s (word ∷ rest)) (at rows p waiting false) (word ∷ rest)
    anywhere_joined name value None d o l q f g e =
        ends None _ (at rows p waiting false) (word ∷ rest) (read_unknown word rest names s d o q (f ∙ e))
        (now (at rows p waiting false) word rest kind.UnknownArgument [] (unknown_fault rows p word d waiting name (Some value) l (option_known name None e)))
    anywhere_joined name value (Some flag) d o l q f g e = go (has_flag flag s) refl
      where
        fault : Rattle.clap.specs.Faults.turn_fault Rattle.run_rules.proofs.LineSteps.top [] (at rows p waiting false) word ≡ use_fault false (one_value flag) (value ∷ []) (settled_rows rules p rows)
        fault = joined_fault rows p word d waiting flag name value l (option_known name (Some flag) e)
            ∙ ap (λ first. or_else first (use_fault false (one_value flag) (value ∷ []) (settled_rows rules p rows))) r.0

        row : Rattle.clap.specs.Walk.has_row (long_name flag) (settled_rows rules p rows) ≡ has_flag flag s
        row = row_is_flag (settled_rows rules p rows) names s flag r.1

        go : (b : Bool) → has_flag flag s ≡ b → Ends (result Anywhere names s (word ∷ rest)) (at rows p waiting false) (word ∷ rest)
        go true b =
            ends None _ (at rows p waiting false) (word ∷ rest) (read_twice word rest names s flag d o q (f ∙ e) b)
            (now (at rows p waiting false) word rest kind.ArgumentConflict [] (fault ∙ use_twice flag value _ (row ∙ b)))
        go false b =
            ends (result Anywhere names (with_value flag value s) rest) _ (at rows p waiting false) (word ∷ rest) (read_joined word rest names s flag value d o q (f ∙ e) g b)
            (next _ (at rows p waiting false) _ word rest (fault ∙ use_once flag value _ (row ∙ b)) (joined_met rows p word d waiting flag name value l (option_known name (Some flag) e))
            (ih.anywhere _ None idle names (with_value flag value s) refl (dash_rest word rest d n) (joined_ready flag _ names s value b r.1)))

    anywhere_apart : (name : Text) (flag : Option Flag) → bytes_eq word (codes "--") ≡ false → is_option word ≡ true
        → Rattle.clap.specs.Lexer.long_of word ≡ Some (name, None) → has_equals word ≡ false → flag_of word ≡ flag_long name
        → flag_long name ≡ flag → Ends (result Anywhere names s (word ∷ rest)) (at rows p waiting false) (word ∷ rest)
    anywhere_apart name None d o l q f e =
        ends None _ (at rows p waiting false) (word ∷ rest) (read_no_flag word rest names s d o q (f ∙ e))
        (now (at rows p waiting false) word rest kind.UnknownArgument [] (unknown_fault rows p word d waiting name None l (option_known name None e)))
    anywhere_apart name (Some flag) d o l q f e =
        ends (result (AtValue flag) names s rest) _ (at rows p waiting false) (word ∷ rest) (read_apart word rest names s flag d o q (f ∙ e))
        (next _ (at rows p waiting false) _ word rest (apart_fault rows p word d waiting flag name l (option_known name (Some flag) e) ∙ r.0)
        (apart_met rows p word d waiting flag name l (option_known name (Some flag) e))
        (ih.value flag _ names s (dash_rest word rest d n) (dash_next word rest flag d (f ∙ e) n) r.1))

    anywhere_word : Class word → Ends (result Anywhere names s (word ∷ rest)) (at rows p waiting false) (word ∷ rest)
    anywhere_word (dashes d) =
        ends (result Behind names s rest) _ (at rows p waiting false) (word ∷ rest) (read_dashes word rest names s d)
        (next _ (at rows p waiting false) (at rows p waiting true) word rest (dashes_fault rows p word waiting d) (dashes_met rows p word waiting d) (ih.behind rows p waiting names s r))
    anywhere_word (plain d o l f) =
        ends (result Anywhere (names ++ word ∷ []) s rest) _ (at rows p waiting false) (word ∷ rest) (read_name word rest names s d o)
        (next _ (at rows p waiting false) _ word rest (name_fault rows p word d waiting i l f ∙ r.0) (name_met rows p word d waiting i l f)
        (ih.anywhere _ _ positional (names ++ word ∷ []) s refl (dash_rest word rest d n) (name_ready _ names s word r.1)))
    anywhere_word (apart name d o l q f) = anywhere_apart name (flag_long name) d o l q f refl
    anywhere_word (joined name value d o l q f g) = anywhere_joined name value (flag_long name) d o l q f g refl
    anywhere_word (short f flags d o l t a b) =
        let first = readable f flags t in
        ends None _ (at rows p waiting false) (word ∷ rest) (read_short word rest names s d o a b)
        (now (at rows p waiting false) word rest kind.UnknownArgument [] (short_fault rows p word d waiting first.0 f flags l t first.1))

  module _ (flag : Flag) (rows : List Row) (names : List GivenWord) (s : Settings)
      (n : has_dash_value (word ∷ rest) ≡ false) (m : bytes_eq word (codes "-") ≡ false) (h : Holds rows names s) where
    abbrev here : Walk
    here = at rows (Some (long_name flag, [])) (option (long_name flag)) false

    -- the option gets no value
    no_value : (k : Kinds) → is_option word ≡ true → Rattle.clap.specs.Faults.turn_fault Rattle.run_rules.proofs.LineSteps.top [] here word ≡ kind.InvalidValue ∷ k
        → Ends (result (AtValue flag) names s (word ∷ rest)) here (word ∷ rest)
    no_value k o t = ends None _ here (word ∷ rest) (read_no_value word rest names s flag (option_begins word o)) (now here word rest kind.InvalidValue k t)

    -- there is no such option
    no_option : is_option word ≡ true → Rattle.clap.specs.Faults.turn_fault Rattle.run_rules.proofs.LineSteps.top [] here word ≡ kind.UnknownArgument ∷ []
        → Ends (result (AtValue flag) names s (word ∷ rest)) here (word ∷ rest)
    no_option o t = ends None _ here (word ∷ rest) (read_no_value word rest names s flag (option_begins word o)) (now here word rest kind.UnknownArgument [] t)

    value_word : Class word → Ends (result (AtValue flag) names s (word ∷ rest)) here (word ∷ rest)
    value_word (dashes d) =
        ends None _ here (word ∷ rest) (read_no_value word rest names s flag (dashes_begin word d))
        (next None here (at rows (Some (long_name flag, [])) (option (long_name flag)) true) word rest (dashes_fault rows (Some (long_name flag, [])) word (option (long_name flag)) d)
        (dashes_met rows (Some (long_name flag, [])) word (option (long_name flag)) d)
        (lost rest rows (Some (long_name flag, [])) (option (long_name flag)) true kind.InvalidValue [] refl (unfilled flag rows) later))
    value_word (plain d o l f) = go (has_flag flag s) refl
      where
        go : (b : Bool) → has_flag flag s ≡ b → Ends (result (AtValue flag) names s (word ∷ rest)) here (word ∷ rest)
        go true b =
            ends None _ here (word ∷ rest) (read_again word rest names s flag (name_begins word o m) b)
            (next None here (at rows (Some (long_name flag, word ∷ [])) idle false) word rest (value_fault rows word d l f flag) (value_met rows word d l f flag)
            (lost rest rows (Some (long_name flag, word ∷ [])) idle false kind.ArgumentConflict [] refl
            (filled_fault flag word rows ∙ use_twice flag word rows (row_is_flag rows names s flag h ∙ b)) later))
        go false b =
            ends (result Anywhere names (with_value flag word s) rest) _ here (word ∷ rest) (read_value word rest names s flag (name_begins word o m) b)
            (next _ here (at rows (Some (long_name flag, word ∷ [])) idle false) word rest (value_fault rows word d l f flag) (value_met rows word d l f flag)
            (ih.anywhere rows (Some (long_name flag, word ∷ [])) idle names (with_value flag word s) refl (dash_rest word rest d n) (value_ready flag rows names s word b h)))
    value_word (apart name d o l q f) = known (flag_long name) refl
      where
        known : (found : Option Flag) → flag_long name ≡ found → Ends (result (AtValue flag) names s (word ∷ rest)) here (word ∷ rest)
        known None e = no_option o (unknown_fault rows (Some (long_name flag, [])) word d (option (long_name flag)) name None l (option_known name None e))
        known (Some other) e = no_value [] o
            (apart_fault rows (Some (long_name flag, [])) word d (option (long_name flag)) other name l (option_known name (Some other) e) ∙ unfilled flag rows)
    value_word (joined name value d o l q f g) = known (flag_long name) refl
      where
        known : (found : Option Flag) → flag_long name ≡ found → Ends (result (AtValue flag) names s (word ∷ rest)) here (word ∷ rest)
        known None e = no_option o (unknown_fault rows (Some (long_name flag, [])) word d (option (long_name flag)) name (Some value) l (option_known name None e))
        known (Some other) e = no_value [] o
            (joined_fault rows (Some (long_name flag, [])) word d (option (long_name flag)) other name value l (option_known name (Some other) e)
            ∙ ap (λ first. or_else first (use_fault false (one_value other) (value ∷ []) (settled_rows rules (Some (long_name flag, [])) rows))) (unfilled flag rows))
    value_word (short f flags d o l t a b) =
        let first = readable f flags t in
        no_option o (short_fault rows (Some (long_name flag, [])) word d (option (long_name flag)) first.0 f flags l t first.1)

-- ---- all words

pub reads : (words : List GivenWord) → AreReadable words → Reads words
unfolding with_words Rattle.clap.specs.Faults.walk_fault
reads [] t = record {
  anywhere = λ rows p waiting names s i n r. r;
  value = λ flag rows names s n m h. (kind.InvalidValue, [], unfilled flag rows);
  behind = λ rows p waiting names s r. r;
}
reads (word ∷ rest) t = record {
  anywhere = λ rows p waiting names s i n r. anywhere_word word rest t.0 t.1 (reads rest t.1) rows p waiting names s i n r (class word);
  value = λ flag rows names s n m h. value_word word rest t.0 t.1 (reads rest t.1) flag rows names s n m h (class word);
  behind = λ rows p waiting names s r. behind_word word rest t.0 t.1 (reads rest t.1) rows p waiting names s r;
}
