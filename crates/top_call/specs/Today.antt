-- What the program owes today: what the whole program does, but that `refill` is missing. This file stands for what is missing.
-- It goes when every command is there: then the duties are those of the whole program, `all_duties`.
use Rattle.std.specs.Prelude.{◌≡◌, Bool, if◌then◌else◌, List, [], ◌∷◌}
use Rattle.std.specs.Str.{bytes_eq}
use lib.Chars.{codes}
use Rattle.desk.specs.Seen.{Seen}
use Rattle.run_rules.specs.declared.words.Command.{Command}
use Rattle.run_rules.specs.declared.words.Command.TheVariants as commands
use Rattle.run_rules.specs.declared.words.UsageFault.TheVariants.{Words}
use Rattle.run_rules.specs.declared.ended.Ended.TheVariants.{Usage}
use Rattle.run_rules.specs.Words.{GivenWord, Wanted, wanted}
use Rattle.run_rules.specs.Words.Wanted.{Wrong}
use Rattle.run_rules.specs.Due.{Due, Duties, OwesCommand}
use Rattle.run_rules.specs.Due.Due.{Refuse}

-- a command that the program has not yet
abbrev pub is_missing : GivenWord → Bool
is_missing command = bytes_eq command (codes "refill")

-- words want what they always do; but a command that is missing is none, whatever its words
unfoldable pub asked_today : List GivenWord → Wanted
asked_today [] = wanted []
asked_today (command ∷ words) = if is_missing command then Wrong Words else wanted (command ∷ words)

-- the commands that are there owe what they always do
abbrev pub OwesToday : Command → Seen → Due → Type 0
OwesToday (commands.Fill input output threads rules) s due = OwesCommand (commands.Fill input output threads rules) s due
OwesToday (commands.Refill input edits output threads rules) s due = due ≡ Refuse (Usage Words)
OwesToday (commands.Report input rules) s due = OwesCommand (commands.Report input rules) s due
OwesToday (commands.Generate seed size output) s due = OwesCommand (commands.Generate seed size output) s due

-- what is due of a run of today's program
abbrev pub today : Duties
today = record { asked = asked_today; Owes = OwesToday }
