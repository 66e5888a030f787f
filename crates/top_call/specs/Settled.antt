-- Runs that nothing refuses: these are done, want of memory aside.
use Rattle.std.specs.Prelude.{◌≡◌, ◌≤◌, List, length}
use Rattle.desk.specs.Seen.{Seen, content}
use Rattle.run_rules.specs.declared.words.Command.{Command}
use Rattle.run_rules.specs.declared.words.Command.TheVariants as commands
use Rattle.run_rules.specs.declared.ended.Ended.{Ended}
use Rattle.run_rules.specs.declared.ended.Ended.TheVariants.{Done, Memory}
use Rattle.run_rules.specs.Words.{GivenWord}
use Rattle.run_rules.specs.Words.Wanted.{Run}
use Rattle.edit_language.specs.Edited.{IsBoardText}
use Rattle.top_call.specs.Today.{asked_today}

-- nothing refuses the command: IN, if it has one, is a text of at most 67,108,864 bytes, and its board has no offence
abbrev pub IsWelcome : Command → Seen → Type 0
IsWelcome (commands.Fill input output threads rules) s = (length (content input s) ≤ 67108864) × IsBoardText (content input s)
IsWelcome (commands.Refill input edits output threads rules) s = ⊥
IsWelcome (commands.Report input rules) s = (length (content input s) ≤ 67108864) × IsBoardText (content input s)
IsWelcome (commands.Generate seed size output) s = Unit {0}

-- the words are a command that nothing refuses
pub record IsAcceptedRun (words : List GivenWord) (s : Seen) : Type 0 where
  pub command : Command
  pub asked : asked_today words ≡ Run command
  pub welcome : IsWelcome command s

-- the run is done, but for want of memory
abbrev pub IsDoneOrMemory : Ended → Type 0
IsDoneOrMemory (Done lines) = Unit {0}
IsDoneOrMemory Memory = Unit {0}
IsDoneOrMemory other = ⊥
