-- What one more word does to a parse.
use Rattle.std.proofs.Common.{◌≡◌, refl, ℕ, Bool, true, false, List, [], ◌∷◌, Option, None, Some}
use Rattle.std.specs.Prelude.{◌&&◌, slice_get}
use Rattle.std.specs.Str.{bytes_eq, chars}
use lib.Chars.{codes}
use Rattle.clap.specs.Lexer.{long_of, short_of}
use Rattle.clap.specs.Walk.{Text, Row, Held, Waiting, Walk, idle, option, positional, walked, used, settled_rows, is_pending, takes_several, arg_by_long, subcommand_met}
use Rattle.clap.specs.Simple.{Shape, new_shape}
use Rattle.clap.specs.Kinds.{Kinds, or_else}
use Rattle.clap.specs.Faults.{settle_fault, use_fault, turn_fault, flags_fault}
use Rattle.clap.specs.declared.error.kind.ErrorKind.TheVariants as kind
use Rattle.run_rules.specs.declared.words.Flag.{Flag}
use Rattle.run_rules.specs.declared.words.Flag.TheVariants.{Threads, Clearance, EdgeClearance}
use Rattle.run_rules.specs.Inner.Line.{long_name}
use Rattle.run_rules.proofs.LineRules.{rules, one_value, one_name}

-- the command line as it is built
abbrev pub top : Shape
top = record (new_shape (codes "zonefill")) { rules = rules; disable_help_flag = true; disable_help_subcommand = true; is_built = true }

-- where the parse stands
abbrev pub held : List Row → Option (Text × List Text) → Held
held rows pending = record { rows = rows; pending = pending; skip = 0 }

abbrev pub at : List Row → Option (Text × List Text) → Waiting → Bool → Walk
at rows pending waiting trailing = record { held = held rows pending; waiting = waiting; position = 1; is_trailing = trailing; stopped = None }

-- the fault of what is pending
abbrev pub pending_fault : List Row → Option (Text × List Text) → Kinds
pending_fault rows pending = settle_fault rules false (held rows pending)

-- no option waits for its value
abbrev pub is_idle : Waiting → Bool
is_idle idle = true
is_idle (option id) = false
is_idle positional = true

no_subcommand : (waiting : Waiting) (word : Text) → subcommand_met [] waiting word ≡ None
no_subcommand idle word = refl
no_subcommand (option id) word = refl
no_subcommand positional word = refl

no_more : (p : Option (Text × List Text)) → (is_pending one_name p && takes_several one_name) ≡ false
no_more None = refl
no_more (Some p) = go (bytes_eq p.0 (codes "names"))
  where
    go : (b : Bool) → (b && false) ≡ false
    go true = refl
    go false = refl

no_else : (k : Kinds) → or_else k [] ≡ k
no_else [] = refl
no_else (k ∷ ks) = refl

module _ (rows : List Row) (p : Option (Text × List Text)) (word : Text) where
  -- behind `--`
  pub name_behind : (waiting : Waiting) → walked rules [] (at rows p waiting true) word ≡ at (settled_rows rules p rows) (Some (codes "names", word ∷ [])) positional true
  unfolding walked
  name_behind waiting = rw (no_more p) refl

  pub name_behind_fault : (waiting : Waiting) → turn_fault top [] (at rows p waiting true) word ≡ pending_fault rows p
  name_behind_fault waiting = rw (no_more p) refl

  -- `--`
  pub dashes_met : (waiting : Waiting) → bytes_eq word (codes "--") ≡ true → walked rules [] (at rows p waiting false) word ≡ at rows p waiting true
  unfolding walked
  dashes_met waiting d = rw (no_subcommand waiting word) (rw d refl)

  pub dashes_fault : (waiting : Waiting) → bytes_eq word (codes "--") ≡ true → turn_fault top [] (at rows p waiting false) word ≡ []
  dashes_fault waiting d = rw (no_subcommand waiting word) (rw d refl)

module _ (rows : List Row) (p : Option (Text × List Text)) (word : Text) (d : bytes_eq word (codes "--") ≡ false) where
  -- a name
  pub name_met : (waiting : Waiting) → is_idle waiting ≡ true → long_of word ≡ None → short_of word ≡ None
      → walked rules [] (at rows p waiting false) word ≡ at (settled_rows rules p rows) (Some (codes "names", word ∷ [])) positional false
  unfolding walked
  name_met idle i l s = rw (d, l, s, no_more p) refl
  name_met (option id) i l s = absurd (cc i)
  name_met positional i l s = rw (d, l, s, no_more p) refl

  pub name_fault : (waiting : Waiting) → is_idle waiting ≡ true → long_of word ≡ None → short_of word ≡ None
      → turn_fault top [] (at rows p waiting false) word ≡ pending_fault rows p
  name_fault idle i l s = rw (d, l, s, no_more p) refl
  name_fault (option id) i l s = absurd (cc i)
  name_fault positional i l s = rw (d, l, s, no_more p) refl

  -- an option with its value
  pub joined_met : (waiting : Waiting) (flag : Flag) (name value : Text) → long_of word ≡ Some (name, Some value) → arg_by_long rules name ≡ Some (one_value flag)
      → walked rules [] (at rows p waiting false) word ≡ at (used (one_value flag) (value ∷ []) (settled_rows rules p rows)) None idle false
  unfolding walked
  joined_met waiting flag name value l a = rw (no_subcommand waiting word) (rw (d, l) (rw a refl))

  pub joined_fault : (waiting : Waiting) (flag : Flag) (name value : Text) → long_of word ≡ Some (name, Some value) → arg_by_long rules name ≡ Some (one_value flag)
      → turn_fault top [] (at rows p waiting false) word ≡ or_else (pending_fault rows p) (use_fault false (one_value flag) (value ∷ []) (settled_rows rules p rows))
  joined_fault waiting flag name value l a = rw (no_subcommand waiting word) (rw (d, l) (rw a (no_else _)))

  -- an option whose value is the next word
  pub apart_met : (waiting : Waiting) (flag : Flag) (name : Text) → long_of word ≡ Some (name, None) → arg_by_long rules name ≡ Some (one_value flag)
      → walked rules [] (at rows p waiting false) word ≡ at (settled_rows rules p rows) (Some (long_name flag, [])) (option (long_name flag)) false
  unfolding walked
  apart_met waiting flag name l a = rw (no_subcommand waiting word) (rw (d, l) (rw a refl))

  pub apart_fault : (waiting : Waiting) (flag : Flag) (name : Text) → long_of word ≡ Some (name, None) → arg_by_long rules name ≡ Some (one_value flag)
      → turn_fault top [] (at rows p waiting false) word ≡ pending_fault rows p
  apart_fault waiting flag name l a = rw (no_subcommand waiting word) (rw (d, l) (rw a (no_else _)))

  -- no such option
  pub unknown_fault : (waiting : Waiting) (name : Text) (value : Option Text) → long_of word ≡ Some (name, value) → arg_by_long rules name ≡ None
      → turn_fault top [] (at rows p waiting false) word ≡ kind.UnknownArgument ∷ []
  unknown_fault waiting name value l a = rw (no_subcommand waiting word) (rw (d, l) (rw a refl))

  pub short_fault : (waiting : Waiting) (x f : ℕ) (flags : Text) → long_of word ≡ None → short_of word ≡ Some (f ∷ flags) → slice_get (chars (f ∷ flags)) 0 ≡ Some x
      → turn_fault top [] (at rows p waiting false) word ≡ kind.UnknownArgument ∷ []
  unfolding flags_fault
  short_fault waiting x f flags l s c = rw (no_subcommand waiting word) (rw (d, l, s) (rw c refl))

module _ (rows : List Row) (word : Text) (d : bytes_eq word (codes "--") ≡ false) (l : long_of word ≡ None) (s : short_of word ≡ None) where
  -- the value of an option
  pub value_met : (flag : Flag) → walked rules [] (at rows (Some (long_name flag, [])) (option (long_name flag)) false) word ≡ at rows (Some (long_name flag, word ∷ [])) idle false
  unfolding walked
  value_met Threads = rw (d, l, s) refl
  value_met Clearance = rw (d, l, s) refl
  value_met EdgeClearance = rw (d, l, s) refl

  pub value_fault : (flag : Flag) → turn_fault top [] (at rows (Some (long_name flag, [])) (option (long_name flag)) false) word ≡ []
  value_fault Threads = rw (d, l, s) refl
  value_fault Clearance = rw (d, l, s) refl
  value_fault EdgeClearance = rw (d, l, s) refl
