-- What a parse of all words finds is what the words give.
use Rattle.std.proofs.Common.{◌≡◌, ◌∙◌, ap, ap₂, sym, subst, refl, ℕ, Bool, true, false, List, [], ◌∷◌, Option, None, Some}
use Rattle.std.specs.Prelude.{◌||◌, option_map, slice_get, fold}
use Rattle.std.specs.Str.{chars}
use Rattle.clap.specs.Lexer.{short_of}
use Rattle.clap.specs.Walk.{Text, Row, Waiting, Walk, walked, used, settled, settled_rows, has_row}
use Rattle.clap.specs.Kinds.{Kinds, or_else}
use Rattle.clap.specs.Faults.{settle_fault, use_fault, turn_fault, walk_fault}
use Rattle.clap.specs.declared.error.kind.ErrorKind.{ErrorKind}
use Rattle.clap.specs.declared.error.kind.ErrorKind.TheVariants as kind
use Rattle.run_rules.specs.declared.words.Flag.{Flag}
use Rattle.run_rules.specs.declared.words.Flag.TheVariants.{Threads, Clearance, EdgeClearance}
use Rattle.run_rules.specs.Words.{GivenWord, Given}
use Rattle.run_rules.specs.Inner.Line.{long_name}
use Rattle.run_rules.proofs.LineRules.{rules, one_value}
use Rattle.run_rules.proofs.LineRows.{Holds}
use Rattle.run_rules.proofs.LineWords.{Class, class, dashes, plain, apart, joined, short, flag_long, long_found}
use Rattle.run_rules.proofs.LineSteps.{top, at, pending_fault, is_idle, name_behind_fault, dashes_met, dashes_fault, name_fault, joined_fault, apart_fault, unknown_fault, short_fault}

-- ---- how a parse ends

-- all faults of the words from here on, the pending one last
abbrev pub total : Walk → List Text → Kinds
total w words = or_else (walk_fault top [] w words) (settle_fault rules false (fold (walked rules []) w words).held)

-- the parse of these words fails, or finds this
abbrev pub Ends : Option Given → Walk → List Text → Type 0
Ends None w words = (k : ErrorKind) × (ks : Kinds) × (total w words ≡ k ∷ ks)
Ends (Some g) w words = (total w words ≡ []) × Holds (settled rules (fold (walked rules []) w words).held).rows g.names g.settings

same_total : (w v : Walk) (word : Text) (rest : List Text) → turn_fault top [] w word ≡ [] → walked rules [] w word ≡ v → total w (word ∷ rest) ≡ total v rest
unfolding walk_fault
same_total w v word rest t e =
    ap₂ (λ (turn : Kinds) (y : Walk). or_else (or_else turn (walk_fault top [] y rest)) (settle_fault rules false (fold (walked rules []) y rest).held)) t e

-- a word with no fault, before words of which it is known
pub next : (o : Option Given) (w v : Walk) (word : Text) (rest : List Text) → turn_fault top [] w word ≡ [] → walked rules [] w word ≡ v → Ends o v rest → Ends o w (word ∷ rest)
next None w v word rest t e h = (h.0, h.1, same_total w v word rest t e ∙ h.2)
next (Some g) w v word rest t e h =
    (same_total w v word rest t e ∙ h.0, subst (λ (y : Walk). Holds (settled rules (fold (walked rules []) y rest).held).rows g.names g.settings) (sym e) h.1)

-- a word with a fault
pub now : (w : Walk) (word : Text) (rest : List Text) (k : ErrorKind) (ks : Kinds) → turn_fault top [] w word ≡ k ∷ ks → Ends None w (word ∷ rest)
unfolding walk_fault
now w word rest k ks t = (k, ks, rw t refl)

-- the characters of a word can be told
abbrev pub IsReadable : GivenWord → Type 0
IsReadable word = (f : ℕ) (flags : Text) → short_of word ≡ Some (f ∷ flags) → (x : ℕ) × (slice_get (chars (f ∷ flags)) 0 ≡ Some x)

abbrev pub AreReadable : List GivenWord → Type 0
AreReadable [] = Unit {0}
AreReadable (word ∷ words) = IsReadable word × AreReadable words

-- ---- one use of an option

pub use_once : (flag : Flag) (v : Text) (rows : List Row) → has_row (long_name flag) rows ≡ false → use_fault false (one_value flag) (v ∷ []) rows ≡ []
use_once flag v rows e = rw e refl

pub use_twice : (flag : Flag) (v : Text) (rows : List Row) → has_row (long_name flag) rows ≡ true → use_fault false (one_value flag) (v ∷ []) rows ≡ kind.ArgumentConflict ∷ []
use_twice flag v rows e = rw e refl

pub unfilled : (flag : Flag) (rows : List Row) → pending_fault rows (Some (long_name flag, [])) ≡ kind.InvalidValue ∷ []
unfilled Threads rows = refl
unfilled Clearance rows = refl
unfilled EdgeClearance rows = refl

pub filled_fault : (flag : Flag) (v : Text) (rows : List Row) → pending_fault rows (Some (long_name flag, v ∷ [])) ≡ use_fault false (one_value flag) (v ∷ []) rows
filled_fault Threads v rows = refl
filled_fault Clearance v rows = refl
filled_fault EdgeClearance v rows = refl

pub filled_rows : (flag : Flag) (v : Text) (rows : List Row) → settled_rows rules (Some (long_name flag, v ∷ [])) rows ≡ used (one_value flag) (v ∷ []) rows
filled_rows Threads v rows = refl
filled_rows Clearance v rows = refl
filled_rows EdgeClearance v rows = refl

-- ---- a fault that is pending stays

pub lost : (words : List GivenWord) (rows : List Row) (p : Option (Text × List Text)) (waiting : Waiting) (trailing : Bool) (k : ErrorKind) (ks : Kinds)
    → (is_idle waiting || trailing) ≡ true → pending_fault rows p ≡ k ∷ ks → AreReadable words → Ends None (at rows p waiting trailing) words
unfolding walk_fault
lost [] rows p waiting trailing k ks i h t = (k, ks, h)
lost (word ∷ rest) rows p waiting true k ks i h t = now (at rows p waiting true) word rest k ks (name_behind_fault rows p word waiting ∙ h)
lost (word ∷ rest) rows p waiting false k ks i h t = go (class word) (lost rest rows p waiting true k ks (always (is_idle waiting)) h t.1)
  where
    always : (b : Bool) → (b || true) ≡ true
    always true = refl
    always false = refl

    idles : (b : Bool) → (b || false) ≡ true → b ≡ true
    idles true e = refl
    idles false e = e

    go : Class word → Ends None (at rows p waiting true) rest → Ends None (at rows p waiting false) (word ∷ rest)
    go (dashes d) ih = next None (at rows p waiting false) (at rows p waiting true) word rest (dashes_fault rows p word waiting d) (dashes_met rows p word waiting d) ih
    go (plain d o l s) ih = now (at rows p waiting false) word rest k ks (name_fault rows p word d waiting (idles (is_idle waiting) i) l s ∙ h)
    go (apart name d o l q f) ih = known (flag_long name) refl
      where
        known : (flag : Option Flag) → flag_long name ≡ flag → Ends None (at rows p waiting false) (word ∷ rest)
        known None e = now (at rows p waiting false) word rest kind.UnknownArgument [] (unknown_fault rows p word d waiting name None l (long_found name ∙ ap (option_map one_value) e))
        known (Some flag) e = now (at rows p waiting false) word rest k ks (apart_fault rows p word d waiting flag name l (long_found name ∙ ap (option_map one_value) e) ∙ h)
    go (joined name value d o l q f g) ih = known (flag_long name) refl
      where
        known : (flag : Option Flag) → flag_long name ≡ flag → Ends None (at rows p waiting false) (word ∷ rest)
        known None e = now (at rows p waiting false) word rest kind.UnknownArgument [] (unknown_fault rows p word d waiting name (Some value) l (long_found name ∙ ap (option_map one_value) e))
        known (Some flag) e = now (at rows p waiting false) word rest k ks
            (joined_fault rows p word d waiting flag name value l (long_found name ∙ ap (option_map one_value) e)
            ∙ ap (λ first. or_else first (use_fault false (one_value flag) (value ∷ []) (settled_rows rules p rows))) h)
    go (short f flags d o l s a b) ih =
        let first = t.0 f flags s in
        now (at rows p waiting false) word rest kind.UnknownArgument [] (short_fault rows p word d waiting first.0 f flags l s first.1)
