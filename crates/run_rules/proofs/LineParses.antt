-- What a whole parse answers is what the words give.
use Rattle.std.proofs.Common.{◌≡◌, ◌∙◌, ap, ap₂, sym, subst, refl, ℕ, ◌<◌, Bool, true, false, List, [], ◌∷◌, map, drop, length, Option, None, Some, ◌⊎◌, inl, inr, arith}
use Rattle.std.specs.Prelude.{◌||◌, ◌==◌, option_map, option_and_then, is_some, unwrap_or, if◌then◌else◌, slice_get, fold, find}
use Rattle.std.specs.Prelude.{String}
use Rattle.std.specs.String.{string_bytes}
use Rattle.std.specs.Str.{bytes_eq, chars, IsUtf8, encode_utf8_all}
use Rattle.std.proofs.lemmas.Str.{IsUtf8-string_bytes, IsUtf8-drop, IsCharBoundary-after_ascii, encodes-chars}
use Rattle.std.proofs.lemmas.Bool.Decides.{Decides-eqb}
use Rattle.clap.specs.Lexer.{short_of}
use Rattle.clap.specs.Walk.{Text, Row, Rule, idle, with_default, settled, first_of, all_of, has_row, walk, nothing_held, walk_from}
use Rattle.clap.specs.Simple.{App, built, matches_of, entered}
use Rattle.clap.specs.Kinds.{Kinds, or_else, IsAmong}
use Rattle.clap.specs.Faults.{fault_of, level_fault, entered_fault, settle_fault, defaults_fault, default_fault, walk_fault, check_fault}
use Rattle.clap.specs.declared.error.kind.ErrorKind.{ErrorKind}
use Rattle.clap.specs.declared.error.kind.ErrorKind.TheVariants as kinds
use Rattle.run_rules.specs.declared.words.Flag.{Flag}
use Rattle.run_rules.specs.declared.words.Flag.TheVariants.{Threads, Clearance, EdgeClearance}
use Rattle.run_rules.specs.Words.{GivenWord, Given, Settings, no_settings, setting, given_by}
use Rattle.run_rules.specs.Inner.Line.{has_dash_value}
use Rattle.run_rules.specs.Inner.Line.{line, long_name, given_in_rows, error_of, IsRefusalOf}
use Rattle.run_rules.proofs.ReaderGives.{read_is_given}
use Rattle.run_rules.proofs.LineRules.{rules}
use Rattle.run_rules.proofs.LineRows.{Holds}
use Rattle.run_rules.proofs.LineSteps.{top, at}
use Rattle.run_rules.proofs.LineEnds.{total, Ends, IsReadable, AreReadable}
use Rattle.run_rules.proofs.LineReads.{reads}

-- ---- words are texts

rest_readable : (d : ℕ) (rest : Text) → IsUtf8 (d ∷ rest) → (x : ℕ) × (slice_get (chars (d ∷ rest)) 0 ≡ Some x)
rest_readable d rest u = go (chars (d ∷ rest)) refl
  where
    go : (cs : List ℕ) → chars (d ∷ rest) ≡ cs → (x : ℕ) × (slice_get (chars (d ∷ rest)) 0 ≡ Some x)
    go [] e = absurd (cc (sym (ap encode_utf8_all e) ∙ encodes-chars (d ∷ rest) u))
    go (x ∷ cs) e = (x, ap (λ all. slice_get all 0) e)

readable : (word : GivenWord) → IsUtf8 word → IsReadable word
readable [] u f flags e = absurd (cc e)
readable (c ∷ []) u f flags e = go (c == 45) e
  where
    go : (b : Bool) → option_and_then Rattle.clap.specs.Lexer.short_of_rest (if b then Some [] else None) ≡ Some (f ∷ flags) → (x : ℕ) × (slice_get (chars (f ∷ flags)) 0 ≡ Some x)
    go true h = absurd (cc h)
    go false h = absurd (cc h)
readable (c ∷ d ∷ rest) u f flags e = go (c == 45) refl e
  where
    two : (b : Bool) → (if b then None else Some (d ∷ rest)) ≡ Some (f ∷ flags) → IsUtf8 (d ∷ rest) → (x : ℕ) × (slice_get (chars (f ∷ flags)) 0 ≡ Some x)
    two true h v = absurd (cc h)
    two false h v = subst (λ t. (x : ℕ) × (slice_get (chars t) 0 ≡ Some x)) (ap (λ o. unwrap_or o []) h) (rest_readable d rest v)

    go : (b : Bool) → (c == 45) ≡ b → option_and_then Rattle.clap.specs.Lexer.short_of_rest (if b then Some (d ∷ rest) else None) ≡ Some (f ∷ flags)
        → (x : ℕ) × (slice_get (chars (f ∷ flags)) 0 ≡ Some x)
    go true b h =
        let is : c ≡ 45 = (Decides-eqb c 45).0 b in
        two (d == 45) h (IsUtf8-drop (c ∷ d ∷ rest) 1 u (IsCharBoundary-after_ascii (c ∷ d ∷ rest) 0 u (omega arith) (omega (arith, is))))
    go false b h = absurd (cc h)

pub all_readable : {Z : Type 0} (words : List (String Z)) → AreReadable (map string_bytes words)
all_readable [] = tt
all_readable (word ∷ words) = (readable (string_bytes word) (IsUtf8-string_bytes word), all_readable words)

-- ---- no option has a default

abbrev HaveNone : List Rule → Type 0
HaveNone [] = Unit {0}
HaveNone (a ∷ rest) = (a.defaults ≡ []) × HaveNone rest

either_way : {X : Type 0} (b : Bool) (x : X) → (if b then x else x) ≡ x
either_way true x = refl
either_way false x = refl

no_default : (rows : List Row) (a : Rule) → a.defaults ≡ [] → with_default rows a ≡ rows
no_default rows a e = rw e (either_way (has_row a.id rows) rows)

no_default_fault : (rows : List Row) (a : Rule) → a.defaults ≡ [] → default_fault rows a ≡ []
no_default_fault rows a e = rw e (go (has_row a.id rows))
  where
    go : (b : Bool) → (if (b || true) then [] else Rattle.clap.specs.Faults.given_default_fault a []) ≡ []
    go true = refl
    go false = refl

no_defaults : (all : List Rule) (rows : List Row) → HaveNone all → fold with_default rows all ≡ rows
no_defaults [] rows h = refl
no_defaults (a ∷ rest) rows h = ap (λ rs. fold with_default rs rest) (no_default rows a h.0) ∙ no_defaults rest rows h.1

no_defaults_fault : (all : List Rule) (rows : List Row) → HaveNone all → defaults_fault rows all ≡ []
unfolding defaults_fault
no_defaults_fault [] rows h = refl
no_defaults_fault (a ∷ rest) rows h =
    ap₂ (λ (k : Kinds) (rs : List Row). or_else k (defaults_fault rs rest)) (no_default_fault rows a h.0) (no_default rows a h.0) ∙ no_defaults_fault rest rows h.1

bare : HaveNone rules
bare = (refl, (refl, (refl, (refl, tt))))

-- ---- the whole parse

tail_empty : (w s d : Kinds) → d ≡ [] → or_else w (or_else [] (or_else s (or_else d []))) ≡ or_else w s
tail_empty [] [] d e = rw e refl
tail_empty [] (k ∷ ks) d e = refl
tail_empty (k ∷ ks) s d e = refl

module _ (command : GivenWord) (words : List GivenWord) where
  pub fault_is : fault_of line (command ∷ words) ≡ total (at [] None idle false) words
  fault_is = go (walk rules [] nothing_held words).stopped
    where
      go : (stop : Option (Text × List Text))
          → level_fault top [] nothing_held words (is_some (entered (built line) stop)) (entered_fault (built line) stop) ≡ total (at [] None idle false) words
      go None = tail_empty (walk_fault top [] (walk_from nothing_held) words) (settle_fault rules false (walk rules [] nothing_held words).held) _ (no_defaults_fault rules _ bare)
      go (Some stop) = tail_empty (walk_fault top [] (walk_from nothing_held) words) (settle_fault rules false (walk rules [] nothing_held words).held) _ (no_defaults_fault rules _ bare)

  pub rows_are : matches_of line (command ∷ words) ≡ (settled rules (walk rules [] nothing_held words).held).rows
  rows_are = no_defaults rules (settled rules (walk rules [] nothing_held words).held).rows bare

  ends : AreReadable words → has_dash_value words ≡ false → Ends (given_by words) (at [] None idle false) words
  ends t n =
      subst (λ o. Ends o (at [] None idle false) words) (read_is_given words)
      ((reads words t).anywhere [] None idle [] no_settings refl n (refl, Rattle.run_rules.proofs.LineRows.nothing_held))

-- what the rows give
pub record Gives (rows : List Row) (words : List GivenWord) : Type 0 where
  pub given : Given
  pub is : given_by words ≡ Some given
  pub holds : Holds rows given.names given.settings

module _ (command : GivenWord) (words : List GivenWord) (t : AreReadable words) (n : has_dash_value words ≡ false) where
  -- a parse with no fault
  pub parse_gives : (rows : List Row) → fault_of line (command ∷ words) ≡ [] → rows ≡ matches_of line (command ∷ words) → Gives rows words
  parse_gives rows e f = go (given_by words) refl (ends command words t n)
    where
      go : (o : Option Given) → given_by words ≡ o → Ends o (at [] None idle false) words → Gives rows words
      go None h g = absurd (cc (sym g.2 ∙ sym (fault_is command words) ∙ e))
      go (Some given) h g = record { given = given; is = h; holds = subst (λ rs. Holds rs given.names given.settings) (sym (f ∙ rows_are command words)) g.1 }

  -- a parse with a fault
  pub parse_refuses : (k : ErrorKind) → IsAmong k (fault_of line (command ∷ words)) → given_by words ≡ None
  parse_refuses k e = go (given_by words) refl (ends command words t n)
    where
      go : (o : Option Given) → given_by words ≡ o → Ends o (at [] None idle false) words → given_by words ≡ None
      go None h g = h
      go (Some given) h g = absurd (subst (IsAmong k) (fault_is command words ∙ g.0) e)

-- ---- the getters

first_is : (id : Text) (rows : List Row) → first_of id rows ≡ option_and_then (λ values. slice_get values 0) (all_of id rows)
first_is id rows = go (find (λ r. bytes_eq r.id id) rows)
  where
    go : (o : Option Row) → option_and_then (λ r. slice_get r.values 0) o ≡ option_and_then (λ values. slice_get values 0) (option_map (λ r. r.values) o)
    go None = refl
    go (Some r) = refl

pub setting_held : (rows : List Row) (names : List GivenWord) (s : Settings) (flag : Flag) → Holds rows names s → first_of (long_name flag) rows ≡ setting flag s
setting_held rows names s flag h = first_is (long_name flag) rows ∙ ap (option_and_then (λ values. slice_get values 0)) (h.flags_are flag) ∙ go (setting flag s)
  where
    go : (o : Option GivenWord) → option_and_then (λ values. slice_get values 0) (option_map (λ v. v ∷ []) o) ≡ o
    go None = refl
    go (Some v) = refl

-- names and options alike
alike : (g : Given) (names : List GivenWord) (a b c : Option GivenWord) → names ≡ g.names → a ≡ g.settings.threads → b ≡ g.settings.clearance → c ≡ g.settings.edge_clearance
    → g ≡ record { names = names; settings = record { threads = a; clearance = b; edge_clearance = c } }
alike g names a b c n x y z = λ i. record { names = sym n i; settings = record { threads = sym x i; clearance = sym y i; edge_clearance = sym z i } }

pub gives : (rows : List Row) (words : List GivenWord) → Gives rows words → given_by words ≡ Some (given_in_rows rows)
gives rows words g =
    g.is ∙ ap Some (alike g.given _ _ _ _ g.holds.names_are
    (setting_held rows g.given.names g.given.settings Threads g.holds)
    (setting_held rows g.given.names g.given.settings Clearance g.holds)
    (setting_held rows g.given.names g.given.settings EdgeClearance g.holds))

-- ---- the words of a command, of which the first is its name

refusal : (words : List GivenWord) (k : ErrorKind) → given_by words ≡ None → IsRefusalOf words (error_of k)
refusal words kinds.OutOfMemory e = tt
refusal words _ e = (e, refl)

out_of_memory : (words : List GivenWord) (k : ErrorKind) → k ≡ kinds.OutOfMemory → IsRefusalOf words (error_of k)
out_of_memory words k e = subst (λ x. IsRefusalOf words (error_of x)) (sym e) tt

module _ (app : App) (is : app ≡ line) (all : List GivenWord) (named : 0 < length all) (t : AreReadable all) (n : has_dash_value (drop 1 all) ≡ false) where
  pub matches_give : (rows : List Row) → fault_of app all ≡ [] → rows ≡ matches_of app all → given_by (drop 1 all) ≡ Some (given_in_rows rows)
  matches_give rows e f =
      go all named t n (ap (λ (a : App). fault_of a all) (sym is) ∙ e) (f ∙ ap (λ (a : App). matches_of a all) is)
    where
      go : (ws : List GivenWord) → 0 < length ws → AreReadable ws → has_dash_value (drop 1 ws) ≡ false → fault_of line ws ≡ [] → rows ≡ matches_of line ws
          → given_by (drop 1 ws) ≡ Some (given_in_rows rows)
      go [] l r m a b = absurd (omega (arith, l))
      go (command ∷ words) l r m a b = gives rows words (parse_gives command words r.1 m rows a b)

  pub faults_refuse : (k : ErrorKind) → (k ≡ kinds.OutOfMemory) ⊎ IsAmong k (fault_of app all) → IsRefusalOf (drop 1 all) (error_of k)
  faults_refuse k (inl e) = out_of_memory (drop 1 all) k e
  faults_refuse k (inr a) = refusal (drop 1 all) k (go all named t n (subst (λ (b : App). IsAmong k (fault_of b all)) is a))
    where
      go : (ws : List GivenWord) → 0 < length ws → AreReadable ws → has_dash_value (drop 1 ws) ≡ false → IsAmong k (fault_of line ws) → given_by (drop 1 ws) ≡ None
      go [] l r m b = absurd (omega (arith, l))
      go (command ∷ words) l r m b = parse_refuses command words r.1 m k b
