-- How many steps a run counts: one for each task of the board that is filled.
use Rattle.std.specs.Prelude.{◌≡◌, ◌⊎◌, ℕ, ◌+◌, ◌<◌, List, length}
use Rattle.desk.specs.Seen.{Seen, content}
use Rattle.board_language.specs.declared.board.Rules.{Rules}
use Rattle.board_language.specs.Board.{Board}
use Rattle.fill_rules.specs.Tasks.{ranked}
use Rattle.edit_language.specs.Edited.{IsBoardOf}
use Rattle.run_rules.specs.declared.words.Command.{Command}
use Rattle.run_rules.specs.declared.words.Command.TheVariants as commands
use Rattle.run_rules.specs.declared.ended.Ended.{Ended}
use Rattle.run_rules.specs.declared.ended.Ended.TheVariants.{Done}
use Rattle.board_gen.specs.Generated.{generated}
use Rattle.run_rules.specs.Words.{GivenWord, default_rules}
use Rattle.run_rules.specs.Words.Wanted.{Run}
use Rattle.top_call.specs.Today.{asked_today}

-- the count rose by the number of tasks of the text's board
abbrev pub TakesSteps : List ℕ → Rules → (before now : ℕ) → Type 0
TakesSteps text rules before now = (b : Board) × IsBoardOf text rules b × (now ≡ before + length (ranked b))

-- one worker counts a step for each task of the board that its command reads, or makes
abbrev pub CommandTakes : Command → Seen → (before now : ℕ) → Type 0
CommandTakes (commands.Fill input output threads rules) s before now = TakesSteps (content input s) rules before now
CommandTakes (commands.Refill input edits output threads rules) s before now = ⊥
CommandTakes (commands.Report input rules) s before now = TakesSteps (content input s) rules before now
CommandTakes (commands.Generate seed size output) s before now = TakesSteps (generated seed size) default_rules before now

-- so many workers count so many steps if they are one, and none if they are more, since each has a counter of its own
abbrev pub IsTakenBy : (workers steps : ℕ) → (before now : ℕ) → Type 0
IsTakenBy workers steps before now = ((workers ≡ 1) × (now ≡ before + steps)) ⊎ ((1 < workers) × (now ≡ before))

-- only `fill` has several workers
abbrev pub WorkersTake : Command → Seen → (before now : ℕ) → Type 0
WorkersTake (commands.Fill input output threads rules) s before now =
    ((threads ≡ 1) × TakesSteps (content input s) rules before now) ⊎ ((1 < threads) × (now ≡ before))
WorkersTake (commands.Refill input edits output threads rules) s before now = ⊥
WorkersTake (commands.Report input rules) s before now = TakesSteps (content input s) rules before now
WorkersTake (commands.Generate seed size output) s before now = TakesSteps (generated seed size) default_rules before now

-- what a run that is done counted, by its command; of another one nothing is said
abbrev pub HasCounted : (Command → Seen → (before now : ℕ) → Type 0) → Ended → List GivenWord → Seen → (before now : ℕ) → Type 0
HasCounted Takes (Done lines) words s before now = (command : Command) × (asked_today words ≡ Run command) × Takes command s before now
HasCounted Takes other words s before now = Unit {0}

-- the run isn't done
abbrev pub IsNotDone : Ended → Type 0
IsNotDone (Done lines) = ⊥
IsNotDone other = Unit {0}
