-- What the words of the command want of a run. They are those behind the program's name.
use Rattle.std.specs.Prelude.{◌≡◌, ℕ, ◌-◌, ◌^◌, ◌<◌, ◌≤◌, Bool, true, false, not, ◌&&◌, ◌||◌, ◌==◌, nat_le, nat_lt, int_le, if◌then◌else◌, List, [], ◌∷◌, length, Option, None, Some, option_map, option_and_then, is_none, is_some, unwrap_or, pos}
use Rattle.std.specs.List.{list_all}
use Rattle.std.specs.Str.{bytes_eq}
use Rattle.std.specs.Char.{is_ascii_digit}
use lib.Chars.{codes}
use Rattle.grid_num.specs.Spelling.{number}
use Rattle.board_language.specs.declared.board.Rules.{Rules}
use Rattle.board_language.specs.Clearances.{AreSoundRules}
use Rattle.board_text.specs.Items.{size_of}
use Rattle.board_text.specs.Numbers.{length_fault, length_of}
use Rattle.run_rules.specs.declared.words.Flag.{Flag}
use Rattle.run_rules.specs.declared.words.Flag.TheVariants.{Threads, Clearance, EdgeClearance}
use Rattle.run_rules.specs.declared.words.UsageFault.{UsageFault}
use Rattle.run_rules.specs.declared.words.UsageFault.TheVariants as fault
use Rattle.run_rules.specs.declared.words.Command.{Command}
use Rattle.run_rules.specs.declared.words.Command.TheVariants.{Fill, Refill, Report, Generate}

-- a word is the list of its bytes
abbrev pub GivenWord : Type 0
GivenWord = List ℕ

-- ---- names and options

-- a word stands for an option where it begins with `-` and isn't `-` alone
abbrev pub is_option : GivenWord → Bool
is_option [] = false
is_option (c ∷ []) = false
is_option (c ∷ d ∷ rest) = c == 45

-- a word that begins so is no value of an option
abbrev pub begins_with_dash : GivenWord → Bool
begins_with_dash [] = false
begins_with_dash (c ∷ rest) = c == 45

-- the option of this name, if there is one
abbrev pub flag_of : GivenWord → Option Flag
flag_of word =
    if bytes_eq word (codes "--threads") then Some Threads
    else (if bytes_eq word (codes "--clearance") then Some Clearance else (if bytes_eq word (codes "--edge-clearance") then Some EdgeClearance else None))

-- an option's word up to its first `=`
abbrev pub name_in : GivenWord → GivenWord
name_in [] = []
name_in (c ∷ rest) = if c == 61 then [] else c ∷ name_in rest

-- what stands behind the first `=`, if there is one
abbrev pub value_in : GivenWord → Option GivenWord
value_in [] = None
value_in (c ∷ rest) = if c == 61 then Some rest else value_in rest

-- the option's value stands in the same word
abbrev pub has_equals : GivenWord → Bool
has_equals word = is_some (value_in word)

-- the option that such a word names, if there is one
abbrev pub joined_flag : GivenWord → Option Flag
joined_flag word = flag_of (name_in word)

-- and its value
abbrev pub joined_value : GivenWord → GivenWord
joined_value word = unwrap_or (value_in word) []

-- ---- what the words behind the command give

-- the values of the options, of those that are there
pub record Settings : Type 0 where
  pub threads : Option GivenWord
  pub clearance : Option GivenWord
  pub edge_clearance : Option GivenWord

-- no option is there
abbrev pub no_settings : Settings
no_settings = record { threads = None; clearance = None; edge_clearance = None }

-- the value of this option, if it is there
abbrev pub setting : Flag → Settings → Option GivenWord
setting Threads s = s.threads
setting Clearance s = s.clearance
setting EdgeClearance s = s.edge_clearance

-- the option is there
abbrev pub has_flag : Flag → Settings → Bool
has_flag flag s = is_some (setting flag s)

-- with this value of the option
abbrev pub with_value : Flag → GivenWord → Settings → Settings
with_value Threads value s = record { threads = Some value; clearance = s.clearance; edge_clearance = s.edge_clearance }
with_value Clearance value s = record { threads = s.threads; clearance = Some value; edge_clearance = s.edge_clearance }
with_value EdgeClearance value s = record { threads = s.threads; clearance = s.clearance; edge_clearance = Some value }

-- names in their order, and options
pub record Given : Type 0 where
  pub names : List GivenWord
  pub settings : Settings

-- names alone
abbrev pub names_alone : List GivenWord → Given
names_alone names = record { names = names; settings = no_settings }

-- a name before what else is given
abbrev pub name_before : GivenWord → Given → Given
name_before name g = record { names = name ∷ g.names; settings = g.settings }

-- an option before what else is given: it stands once
abbrev pub option_before : GivenWord → Given → Flag → Option Given
option_before value g flag = if has_flag flag g.settings then None else Some (record { names = g.names; settings = with_value flag value g.settings })

-- an option with its value, and the words behind it; none where there is no such option
abbrev pub setting_before : Option Flag → GivenWord → Option Given → Option Given
setting_before flag value rest = option_and_then (λ g. option_and_then (option_before value g) flag) rest

unfoldable mutual
  -- What the words behind the command give. Behind `--` every word is a name. Before it, a word that begins with `-` and isn't `-`
  -- alone is an option, `--x=V`, or `--x` with its value in the next word; every other word is a name. None where a word may not
  -- stand where it stands.
  pub given_by : List GivenWord → Option Given
  given_by [] = Some (names_alone [])
  given_by (word ∷ words) =
      if bytes_eq word (codes "--") then Some (names_alone words)
      else (if not (is_option word) then option_map (name_before word) (given_by words)
      else (if has_equals word then setting_before (joined_flag word) (joined_value word) (given_by words)
      else given_behind (flag_of word) words))

  -- What an option and the words behind it give: the first of them is its value, which doesn't begin with `-`.
  pub given_behind : Option Flag → List GivenWord → Option Given
  given_behind flag [] = None
  given_behind flag (value ∷ words) = if begins_with_dash value then None else setting_before flag value (given_by words)

-- ---- the values of options

-- what is meant where an option isn't there: one worker, 0.2 mm, and 0.5 mm to the board's edge
abbrev pub default_of : Flag → GivenWord
default_of Threads = codes "1"
default_of Clearance = codes "0.2"
default_of EdgeClearance = codes "0.5"

-- the value of an option: where it isn't there, its default
abbrev pub value_of : Flag → Settings → GivenWord
value_of flag settings = unwrap_or (setting flag settings) (default_of flag)

-- one to so many digits, with a number from the least to the most
abbrev pub is_number : ℕ → ℕ → ℕ → GivenWord → Bool
is_number digits least most word =
    (list_all is_ascii_digit word && (nat_lt 0 (length word) && nat_le (length word) digits)) && (nat_le least (number word) && nat_le (number word) most)

-- one to nine digits, from 1 to 64
abbrev pub is_thread_count : GivenWord → Bool
is_thread_count word = is_number 9 1 64 word

-- a length from 2 nm to 100 mm
abbrev pub is_clearance : GivenWord → Bool
is_clearance word = is_none (length_fault word) && (int_le (pos 2) (length_of word) && int_le (length_of word) (pos 100000000))

-- one to twenty digits, below 2^64
abbrev pub is_seed : GivenWord → Bool
is_seed word = is_number 20 0 (2 ^ 64 - 1) word

-- one to nine digits, from 1 to 200
abbrev pub is_size : GivenWord → Bool
is_size word = is_number 9 1 200 word

-- how many workers the options want
abbrev pub threads_in : Settings → ℕ
threads_in settings = number (value_of Threads settings)

-- the clearances that the options want, in nanometres
abbrev pub rules_in : Settings → Rules
rules_in settings = record { floor = size_of (length_of (value_of Clearance settings)); edge = size_of (length_of (value_of EdgeClearance settings)) }

-- what holds where no option says otherwise
abbrev pub default_rules : Rules
default_rules = rules_in no_settings

-- ---- ranges

-- 1 to 64 workers
abbrev pub IsWorkerCount : ℕ → Type 0
IsWorkerCount n = (1 ≤ n) × (n ≤ 64)

-- a board that is made is 1 to 200 cells wide
abbrev pub IsBoardSize : ℕ → Type 0
IsBoardSize n = (1 ≤ n) × (n ≤ 200)

-- the numbers of a command lie so, and its clearances from 2 nm to 100 mm
abbrev pub IsCommandInRange : Command → Type 0
IsCommandInRange (Fill input output threads rules) = IsWorkerCount threads × AreSoundRules rules
IsCommandInRange (Refill input edits output threads rules) = IsWorkerCount threads × AreSoundRules rules
IsCommandInRange (Report input rules) = AreSoundRules rules
IsCommandInRange (Generate seed size output) = (seed < 2 ^ 64) × IsBoardSize size

-- ---- commands

-- what the words want: a command, or they are refused for their first fault
pub data Wanted : Type 0 where
  Wrong : UsageFault → Wanted
  Run : Command → Wanted

-- the number of workers is a right one
abbrev pub has_threads : Settings → Bool
has_threads settings = is_thread_count (value_of Threads settings)

-- both clearances are right lengths
abbrev pub has_lengths : Settings → Bool
has_lengths settings = is_clearance (value_of Clearance settings) && is_clearance (value_of EdgeClearance settings)

-- the command, where the values of its options are right and its files have different names
abbrev pub checked : Settings → Bool → Command → Wanted
checked settings distinct command =
    if not (has_threads settings) then Wrong fault.Threads
    else (if not (has_lengths settings) then Wrong fault.Length else (if not distinct then Wrong fault.SameName else Run command))

-- `fill IN OUT`
abbrev pub fill_wanted : List GivenWord → Settings → Wanted
fill_wanted (input ∷ output ∷ []) settings = checked settings (not (bytes_eq input output)) (Fill input output (threads_in settings) (rules_in settings))
fill_wanted _ settings = Wrong fault.Words

-- no two of three names are equal
abbrev pub are_distinct : GivenWord → GivenWord → GivenWord → Bool
are_distinct a b c = not (bytes_eq a b || (bytes_eq a c || bytes_eq b c))

-- `refill IN EDITS OUT`
abbrev pub refill_of : List GivenWord → Settings → Wanted
refill_of (input ∷ edits ∷ output ∷ []) settings = checked settings (are_distinct input edits output) (Refill input edits output (threads_in settings) (rules_in settings))
refill_of _ settings = Wrong fault.Words

-- `report IN`, which takes no number of workers
abbrev pub report_of : List GivenWord → Settings → Wanted
report_of (input ∷ []) settings = if has_flag Threads settings then Wrong fault.Words else checked settings true (Report input (rules_in settings))
report_of _ settings = Wrong fault.Words

-- an option is there
abbrev pub has_any_flag : Settings → Bool
has_any_flag settings = has_flag Threads settings || (has_flag Clearance settings || has_flag EdgeClearance settings)

-- `generate SEED SIZE OUT`, which takes no options
abbrev pub generate_of : List GivenWord → Settings → Wanted
generate_of (seed ∷ size ∷ output ∷ []) settings =
    if has_any_flag settings then Wrong fault.Words
    else (if not (is_seed seed) then Wrong fault.Seed
    else (if not (is_size size) then Wrong fault.Size else Run (Generate (number seed) (number size) output)))
generate_of _ settings = Wrong fault.Words

-- the command of this name, with its names and options
abbrev pub command_of : GivenWord → List GivenWord → Settings → Wanted
command_of command names settings =
    if bytes_eq command (codes "fill") then fill_wanted names settings
    else (if bytes_eq command (codes "refill") then refill_of names settings
    else (if bytes_eq command (codes "report") then report_of names settings
    else (if bytes_eq command (codes "generate") then generate_of names settings else Wrong fault.Words)))

-- words that give no names and options are of no command's form
abbrev pub wanted_as : GivenWord → Option Given → Wanted
wanted_as command None = Wrong fault.Words
wanted_as command (Some g) = command_of command g.names g.settings

-- the first word is the command
unfoldable pub wanted : List GivenWord → Wanted
wanted [] = Wrong fault.Words
wanted (command ∷ words) = wanted_as command (given_by words)

-- the words are this command
abbrev pub IsCommand : List GivenWord → Command → Type 0
IsCommand words command = wanted words ≡ Run command

-- this is their first fault
abbrev pub HasUsageFault : List GivenWord → UsageFault → Type 0
HasUsageFault words fault = wanted words ≡ Wrong fault
