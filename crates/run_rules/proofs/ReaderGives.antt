-- What the reader of words has read at the end is what the words give.
use Rattle.std.proofs.Common.{◌≡◌, ◌∙◌, ap, sym, refl, Bool, true, false, List, [], ◌∷◌, ◌++◌, Option, None, Some, append-nil, append_assoc}
use Rattle.std.specs.Prelude.{not, option_map, option_and_then, is_some, if◌then◌else◌}
use Rattle.std.specs.Str.{bytes_eq}
use lib.Chars.{codes}
use Rattle.run_rules.specs.declared.words.Flag.{Flag}
use Rattle.run_rules.specs.declared.words.Flag.TheVariants.{Threads, Clearance, EdgeClearance}
use Rattle.run_rules.proofs.Reader.{WordPlace, Anywhere, AtValue, Behind}
use Rattle.run_rules.specs.Words.{GivenWord, Given, Settings, no_settings, names_alone, name_before, option_before, setting_before, has_flag, with_value, is_option, begins_with_dash, flag_of, has_equals, joined_flag, joined_value, given_by, given_behind}
use Rattle.run_rules.proofs.Reader.{Reading, nothing_read, with_name, with_setting, wanting, behind, with_word, with_words, is_whole_stand, given_in}

-- ---- what was read, and what stands behind it

-- an option that stands once in both together
abbrev add : Option GivenWord → Option GivenWord → Option (Option GivenWord)
add None b = Some b
add (Some a) None = Some (Some a)
add (Some a) (Some b) = None

abbrev join : List GivenWord → Option GivenWord → Option GivenWord → Option GivenWord → Given → Option Given
join names a b c g =
    option_and_then (λ x. option_and_then (λ y. option_and_then (λ z.
    Some (record { names = names ++ g.names; settings = record { threads = x; clearance = y; edge_clearance = z } }))
    (add c g.settings.edge_clearance)) (add b g.settings.clearance)) (add a g.settings.threads)

-- names and options that were read, before what else is given
abbrev joined : List GivenWord → Settings → Given → Option Given
joined names s g = join names s.threads s.clearance s.edge_clearance g

abbrev nothing : Option Given
nothing = None

none_of : {X : Type 0} (o : Option X) → option_and_then (λ (x : X). nothing) o ≡ nothing
none_of None = refl
none_of (Some x) = refl

none_in : {X Y : Type 0} (o : Option X) (p : Option Y) → option_and_then (λ (x : X). option_and_then (λ (y : Y). nothing) p) o ≡ nothing
none_in None p = refl
none_in (Some x) p = none_of p

add_none : (a : Option GivenWord) → add a None ≡ Some a
add_none None = refl
add_none (Some a) = refl

-- ---- an option that was read, and what stands behind it

threads_step : (names more : List GivenWord) (v : GivenWord) (a b c d e f : Option GivenWord)
    → (if is_some a then None else join names (Some v) b c (record { names = more; settings = record { threads = d; clearance = e; edge_clearance = f } }))
    ≡ option_and_then (join names a b c) (if is_some d then None else Some (record { names = more; settings = record { threads = Some v; clearance = e; edge_clearance = f } }))
threads_step names more v None b c None e f = refl
threads_step names more v None b c (Some d) e f = refl
threads_step names more v (Some a) b c None e f = refl
threads_step names more v (Some a) b c (Some d) e f = refl

clearance_step : (names more : List GivenWord) (v : GivenWord) (a b c d e f : Option GivenWord)
    → (if is_some b then None else join names a (Some v) c (record { names = more; settings = record { threads = d; clearance = e; edge_clearance = f } }))
    ≡ option_and_then (join names a b c) (if is_some e then None else Some (record { names = more; settings = record { threads = d; clearance = Some v; edge_clearance = f } }))
clearance_step names more v a None c d None f = refl
clearance_step names more v a None c d (Some e) f = none_of (add a d)
clearance_step names more v a (Some b) c d None f = sym (none_of (add a d))
clearance_step names more v a (Some b) c d (Some e) f = refl

edge_step : (names more : List GivenWord) (v : GivenWord) (a b c d e f : Option GivenWord)
    → (if is_some c then None else join names a b (Some v) (record { names = more; settings = record { threads = d; clearance = e; edge_clearance = f } }))
    ≡ option_and_then (join names a b c) (if is_some f then None else Some (record { names = more; settings = record { threads = d; clearance = e; edge_clearance = Some v } }))
edge_step names more v a b None d e None = refl
edge_step names more v a b None d e (Some f) = none_in (add a d) (add b e)
edge_step names more v a b (Some c) d e None = sym (none_in (add a d) (add b e))
edge_step names more v a b (Some c) d e (Some f) = refl

flag_step : (names : List GivenWord) (v : GivenWord) (flag : Flag) (s : Settings) (g : Given)
    → (if has_flag flag s then None else joined names (with_value flag v s) g) ≡ option_and_then (joined names s) (option_before v g flag)
flag_step names v Threads s g = threads_step names g.names v s.threads s.clearance s.edge_clearance g.settings.threads g.settings.clearance g.settings.edge_clearance
flag_step names v Clearance s g = clearance_step names g.names v s.threads s.clearance s.edge_clearance g.settings.threads g.settings.clearance g.settings.edge_clearance
flag_step names v EdgeClearance s g = edge_step names g.names v s.threads s.clearance s.edge_clearance g.settings.threads g.settings.clearance g.settings.edge_clearance

same_none : (b : Bool) → (if b then nothing else nothing) ≡ nothing
same_none true = refl
same_none false = refl

setting_step : (names : List GivenWord) (v : GivenWord) (flag : Flag) (s : Settings) (rest : Option Given)
    → (if has_flag flag s then None else option_and_then (joined names (with_value flag v s)) rest) ≡ option_and_then (joined names s) (setting_before (Some flag) v rest)
setting_step names v flag s None = same_none (has_flag flag s)
setting_step names v flag s (Some g) = flag_step names v flag s g

no_setting_step : (names : List GivenWord) (v : GivenWord) (s : Settings) (rest : Option Given) → None ≡ option_and_then (joined names s) (setting_before None v rest)
no_setting_step names v s None = refl
no_setting_step names v s (Some g) = refl

name_step : (names : List GivenWord) (word : GivenWord) (s : Settings) (rest : Option Given)
    → option_and_then (joined (names ++ word ∷ []) s) rest ≡ option_and_then (joined names s) (option_map (name_before word) rest)
name_step names word s None = refl
name_step names word s (Some g) = ap
    (λ (all : List GivenWord). option_and_then (λ x. option_and_then (λ y. option_and_then {U = Given} (λ z.
    Some (record { names = all; settings = record { threads = x; clearance = y; edge_clearance = z } }))
    (add s.edge_clearance g.settings.edge_clearance)) (add s.clearance g.settings.clearance)) (add s.threads g.settings.threads))
    (append_assoc names (word ∷ []) g.names)

alone : (names words : List GivenWord) (s : Settings) → joined names s (names_alone words) ≡ Some (record { names = names ++ words; settings = s })
alone names words s = rw (add_none s.threads, add_none s.clearance, add_none s.edge_clearance) refl

abbrev with_names : Settings → List GivenWord → Option Given
with_names s names = Some (record { names = names; settings = s })

-- ---- all words

-- what is given at the end, of what a word made of the reader and the words behind it
abbrev after : List GivenWord → Option Reading → Option Given
after words r = option_and_then given_in (option_and_then (λ next. with_words next words) r)

-- what is given at the end, by where the reader stands
abbrev expected : WordPlace → List GivenWord → Settings → List GivenWord → Option Given
expected Anywhere names s words = option_and_then (joined names s) (given_by words)
expected (AtValue flag) names s words = option_and_then (joined names s) (given_behind (Some flag) words)
expected Behind names s words = Some (record { names = names ++ words; settings = s })

abbrev IsExpected : List GivenWord → Type 0
IsExpected words =
    (stand : WordPlace) (names : List GivenWord) (s : Settings)
    → option_and_then given_in (with_words (record { stand = stand; names = names; settings = s }) words) ≡ expected stand names s words

-- an option that is known, before words of which the same is known
setting_read : (words names : List GivenWord) (s : Settings) (v : GivenWord) (stand : WordPlace) → IsExpected words → (flag : Flag)
    → after words (with_setting v (record { stand = stand; names = names; settings = s }) flag) ≡ option_and_then (joined names s) (setting_before (Some flag) v (given_by words))
setting_read words names s v stand ih flag = go (has_flag flag s) ∙ setting_step names v flag s (given_by words)
  where
    go : (b : Bool) → after words (if b then None else Some (record { stand = Anywhere; names = names; settings = with_value flag v s }))
        ≡ (if b then None else option_and_then (joined names (with_value flag v s)) (given_by words))
    go true = refl
    go false = ih Anywhere names (with_value flag v s)

-- an option's word that has its value
joined_read : (words names : List GivenWord) (s : Settings) (v : GivenWord) → IsExpected words → (flag : Option Flag)
    → after words (option_and_then (with_setting v (record { stand = Anywhere; names = names; settings = s })) flag)
    ≡ option_and_then (joined names s) (setting_before flag v (given_by words))
joined_read words names s v ih None = no_setting_step names v s (given_by words)
joined_read words names s v ih (Some flag) = setting_read words names s v Anywhere ih flag

-- an option's word whose value is the next word
apart_read : (words names : List GivenWord) (s : Settings) → IsExpected words → (flag : Option Flag)
    → after words (option_map (wanting (record { stand = Anywhere; names = names; settings = s })) flag) ≡ option_and_then (joined names s) (given_behind flag words)
unfolding given_by
apart_read [] names s ih None = refl
apart_read (value ∷ words) names s ih None = go (begins_with_dash value)
  where
    go : (b : Bool) → None ≡ option_and_then (joined names s) (if b then None else setting_before None value (given_by words))
    go true = refl
    go false = no_setting_step names value s (given_by words)
apart_read words names s ih (Some flag) = ih (AtValue flag) names s

anywhere_read : (word : GivenWord) (words names : List GivenWord) (s : Settings) → IsExpected words
    → after words (with_word (record { stand = Anywhere; names = names; settings = s }) word) ≡ option_and_then (joined names s) (given_by (word ∷ words))
unfolding given_by with_word
anywhere_read word words names s ih = go (bytes_eq word (codes "--")) (is_option word) (has_equals word)
  where
    now : Reading
    now = record { stand = Anywhere; names = names; settings = s }

    go : (dashes option equals : Bool)
        → after words (if dashes then Some (behind (record { stand = Anywhere; names = names; settings = s }))
        else (if option then (if equals then option_and_then (with_setting (joined_value word) (record { stand = Anywhere; names = names; settings = s })) (joined_flag word)
        else option_map (wanting (record { stand = Anywhere; names = names; settings = s })) (flag_of word))
        else Some (with_name word (record { stand = Anywhere; names = names; settings = s }))))
        ≡ option_and_then (joined names s) (if dashes then Some (names_alone words)
        else (if not option then option_map (name_before word) (given_by words)
        else (if equals then setting_before (joined_flag word) (joined_value word) (given_by words) else given_behind (flag_of word) words)))
    go true option equals = ih Behind names s ∙ sym (alone names words s)
    go false true true = joined_read words names s (joined_value word) ih (joined_flag word)
    go false true false = apart_read words names s ih (flag_of word)
    go false false equals = ih Anywhere (names ++ word ∷ []) s ∙ name_step names word s (given_by words)

value_read : (word : GivenWord) (words names : List GivenWord) (s : Settings) (flag : Flag) → IsExpected words
    → after words (with_word (record { stand = AtValue flag; names = names; settings = s }) word) ≡ option_and_then (joined names s) (given_behind (Some flag) (word ∷ words))
unfolding given_by with_word
value_read word words names s flag ih = go (begins_with_dash word)
  where
    go : (b : Bool) → after words (if b then None else with_setting word (record { stand = AtValue flag; names = names; settings = s }) flag)
        ≡ option_and_then (joined names s) (if b then None else setting_before (Some flag) word (given_by words))
    go true = refl
    go false = setting_read words names s word (AtValue flag) ih flag

all_read : (words : List GivenWord) → IsExpected words
unfolding given_by with_word with_words
all_read [] Anywhere names s = sym (alone names [] s ∙ ap (with_names s) (append-nil names))
all_read [] (AtValue flag) names s = refl
all_read [] Behind names s = ap (with_names s) (sym (append-nil names))
all_read (word ∷ words) Anywhere names s = anywhere_read word words names s (all_read words)
all_read (word ∷ words) (AtValue flag) names s = value_read word words names s flag (all_read words)
all_read (word ∷ words) Behind names s =
    all_read words Behind (names ++ word ∷ []) s ∙ ap (with_names s) (append_assoc names (word ∷ []) words)

same : (o : Option Given) → option_and_then (joined [] no_settings) o ≡ o
same None = refl
same (Some g) = refl

pub read_is_given : (words : List GivenWord) → option_and_then given_in (with_words nothing_read words) ≡ given_by words
read_is_given words = all_read words Anywhere [] no_settings ∙ same (given_by words)

-- ---- how the reader ends

module _ {X : Type 0} (f : X → Reading) (o : Option X) (words : List GivenWord) (read : option_map f o ≡ with_words nothing_read words) where
  -- a word may not stand where it stands
  pub none_is_given : o ≡ None → None ≡ given_by words
  none_is_given e = ap (λ p. option_and_then given_in (option_map f p)) (sym e) ∙ ap (option_and_then given_in) read ∙ read_is_given words

  ended : (x : X) → o ≡ Some x → given_in (f x) ≡ given_by words
  ended x e = ap (λ p. option_and_then given_in (option_map f p)) (sym e) ∙ ap (option_and_then given_in) read ∙ read_is_given words

  abbrev at_end : Reading → WordPlace → Option Given
  at_end r stand = if is_whole_stand stand then Some (record { names = r.names; settings = r.settings }) else None

  -- a value is wanted
  pub value_is_wanted : (x : X) (flag : Flag) → o ≡ Some x → (f x).stand ≡ AtValue flag → None ≡ given_by words
  value_is_wanted x flag e at = ap (at_end (f x)) (sym at) ∙ ended x e

  -- all words were read
  pub all_is_given : (x : X) → o ≡ Some x → ((flag : Flag) → (f x).stand ≡ AtValue flag → ⊥) → Some (record { names = (f x).names; settings = (f x).settings }) ≡ given_by words
  all_is_given x e whole = go (f x).stand whole ∙ ended x e
    where
      go : (stand : WordPlace) → ((flag : Flag) → stand ≡ AtValue flag → ⊥) → Some (record { names = (f x).names; settings = (f x).settings }) ≡ at_end (f x) stand
      go Anywhere h = refl
      go (AtValue flag) h = absurd (h flag refl)
      go Behind h = refl
