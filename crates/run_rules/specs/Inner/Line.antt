-- The command line that the library of command lines is given, and what its matches give.
use Rattle.std.specs.Prelude.{◌≡◌, Bool, true, false, not, ◌&&◌, ◌||◌, List, [], ◌∷◌, Some, None, is_some, unwrap_or}
use Rattle.std.specs.Str.{bytes_eq}
use lib.Chars.{codes}
use Rattle.clap.specs.Walk.{Rule, Row, Text, all_of, first_of}
use Rattle.clap.specs.Simple.{App, new_app, new_rule, with_rule, on_top}
use Rattle.clap.specs.declared.builder.action.ArgAction.TheVariants.{Append}
use Rattle.clap.specs.declared.error.kind.ErrorKind.{ErrorKind}
use Rattle.clap.specs.declared.error.kind.ErrorKind.TheVariants as kinds
use Rattle.run_rules.specs.declared.words.Flag.{Flag}
use Rattle.run_rules.specs.declared.words.Flag.TheVariants.{Threads, Clearance, EdgeClearance}
use Rattle.run_rules.specs.declared.words.UsageFault.TheVariants as fault
use Rattle.run_rules.specs.declared.words.WordsError.{WordsError}
use Rattle.run_rules.specs.declared.words.WordsError.TheVariants as errors
use Rattle.run_rules.specs.Words.{GivenWord, Given, flag_of, given_by}

-- ---- the command line: any number of names, and the three options

-- an option's word without its dashes
abbrev pub long_name : Flag → Text
long_name Threads = codes "threads"
long_name Clearance = codes "clearance"
long_name EdgeClearance = codes "edge-clearance"

-- the names
abbrev pub names_rule : Rule
names_rule = record (new_rule (codes "names")) { action = Some Append }

-- an option
abbrev pub flag_rule : Flag → Rule
flag_rule flag = record (new_rule (long_name flag)) { long = Some (long_name flag) }

-- the command line
abbrev pub line : App
line =
    with_rule (with_rule (with_rule (with_rule
    (on_top (λ s. record s { disable_help_flag = true }) (new_app (codes "zonefill")))
    names_rule) (flag_rule Threads)) (flag_rule Clearance)) (flag_rule EdgeClearance)

-- ---- what its matches give

-- names and options, by the rows of the matches
abbrev pub given_in_rows : List Row → Given
given_in_rows rows = record {
  names = unwrap_or (all_of (codes "names") rows) [];
  settings = record {
    threads = first_of (long_name Threads) rows;
    clearance = first_of (long_name Clearance) rows;
    edge_clearance = first_of (long_name EdgeClearance) rows;
  };
}

-- a parse that has no memory, or that refuses the words
abbrev pub error_of : ErrorKind → WordsError
error_of kinds.OutOfMemory = errors.Memory
error_of _ = errors.Bad fault.Words

-- the words give nothing, and so are of no command's form; want of memory aside
abbrev pub IsRefusalOf : List GivenWord → WordsError → Type 0
IsRefusalOf words errors.Memory = Unit {0}
IsRefusalOf words (errors.Bad why) = (given_by words ≡ None) × (why ≡ fault.Words)

-- ---- where the library answers otherwise: it takes `-` for the value of an option that stands before it, and here it is none

-- `-` stands first
abbrev pub is_dash_first : List GivenWord → Bool
is_dash_first [] = false
is_dash_first (word ∷ words) = bytes_eq word (codes "-")

-- before `--`, `-` stands behind an option whose value is the next word
unfoldable pub has_dash_value : List GivenWord → Bool
has_dash_value [] = false
has_dash_value (word ∷ words) = not (bytes_eq word (codes "--")) && ((is_some (flag_of word) && is_dash_first words) || has_dash_value words)
