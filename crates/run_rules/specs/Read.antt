-- What contracts see of the words that were read.
use Rattle.std.specs.Prelude.{◌≡◌, ℕ, Bool, true, List, [], ◌∷◌, option_map, Result, MatchResult}
use Rattle.run_rules.specs.declared.values.Settings as kept
use Rattle.board_language.specs.declared.board.Rules.{Rules}
use Rattle.run_rules.specs.declared.words.Command.{Command}
use Rattle.run_rules.specs.declared.words.UsageFault.{UsageFault}
use Rattle.grid_num.specs.Spelling.{number}
use Rattle.run_rules.specs.Words as words
use Rattle.run_rules.specs.Words.{Wanted, Settings, Given, no_settings, threads_in, rules_in, checked, is_seed, is_size, generate_of}
use Rattle.run_rules.specs.declared.words.WordsError.{WordsError}
use Rattle.run_rules.specs.declared.words.WordsError.TheVariants as errors
use Rattle.run_rules.specs.Words.Wanted.{Wrong, Run}

-- the values of settings, as lists
abbrev pub settings_shown : kept.Settings → Settings
settings_shown s = record {
  threads = option_map (λ v. v.now) s.threads;
  clearance = option_map (λ v. v.now) s.clearance;
  edge_clearance = option_map (λ v. v.now) s.edge_clearance;
}

-- the values of the options are right, and these are they
pub record AreValues (threads : ℕ) (rules : Rules) (settings : Settings) : Type 0 where
  pub threads_right : words.has_threads settings ≡ true
  pub lengths_right : words.has_lengths settings ≡ true
  pub threads_is : threads ≡ threads_in settings
  pub rules_is : rules ≡ rules_in settings

-- whatever the command, this is its first fault
abbrev pub IsValueFault : UsageFault → Settings → Type 0
IsValueFault fault settings = (distinct : Bool) (command : Command) → checked settings distinct command ≡ Wrong fault

-- the command that the words want, or their fault; want of memory aside
abbrev pub IsErrorOf : WordsError → Wanted → Type 0
IsErrorOf errors.Memory wanted = Unit {0}
IsErrorOf (errors.Bad fault) wanted = wanted ≡ Wrong fault

-- the command that the words want, or the error that refuses them
abbrev pub IsAnswerOf : Result Command WordsError → Wanted → Type 0
IsAnswerOf result wanted = MatchResult result (λ command. wanted ≡ Run command) (λ error. IsErrorOf error wanted)

-- the words are a seed and a size, and these are they
pub record IsSource (seed size : ℕ) (first second : List ℕ) : Type 0 where
  pub seed_right : is_seed first ≡ true
  pub size_right : is_size second ≡ true
  pub seed_is : seed ≡ number first
  pub size_is : size ≡ number second

-- whatever the file's name, this is their first fault
abbrev pub IsSourceFault : UsageFault → List ℕ → List ℕ → Type 0
IsSourceFault fault first second = (output : List ℕ) → generate_of (first ∷ second ∷ output ∷ []) no_settings ≡ Wrong fault
