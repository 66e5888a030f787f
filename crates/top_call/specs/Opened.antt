-- The board of a command, as it is read or made, and what is to be done with it.
use Rattle.std.specs.Prelude.{◌≡◌, ℕ, ◌≤◌, List, length}
use Rattle.desk.specs.Seen.{Seen, content}
use Rattle.board_language.specs.declared.board.Rules.{Rules}
use Rattle.edit_language.specs.Edited.{IsBoardOf}
use Rattle.board_gen.specs.Generated.{generated}
use Rattle.run_rules.specs.declared.words.Command.{Command}
use Rattle.run_rules.specs.declared.words.Command.TheVariants as commands
use Rattle.run_rules.specs.Words.{GivenWord, IsWorkerCount, default_rules}
use Rattle.run_rules.specs.Words.Wanted.{Run}
use Rattle.run_rules.specs.Items.{items_in}
use Rattle.top_call.specs.declared.opened.Opened.{Opened}
use Rattle.top_call.specs.declared.opened.Purpose.TheVariants.{Write, Tell, Sum}
use Rattle.top_call.specs.Today.{asked_today}

-- its text is that of a file, and its board the board of that text under these clearances
pub record IsRead (input : List ℕ) (rules : Rules) (s : Seen) (o : Opened) : Type 0 where
  pub text : o.text.items ≡ content input s
  pub short : length o.text.items ≤ 67108864
  pub board : IsBoardOf o.text.items rules o.board.board

-- its text is that of the board made of a seed, and its board the board of that text
pub record IsMade (seed size : ℕ) (o : Opened) : Type 0 where
  pub text : o.text.items ≡ generated seed size
  pub board : IsBoardOf o.text.items default_rules o.board.board

-- the command's board, with what is to be done with it, and the number of workers that the command wants
abbrev pub IsOpened : Command → Seen → Opened → Type 0
IsOpened (commands.Fill input output threads rules) s o = IsRead input rules s o × (o.purpose ≡ Write output) × (o.workers ≡ threads)
IsOpened (commands.Refill input edits output threads rules) s o = ⊥
IsOpened (commands.Report input rules) s o = IsRead input rules s o × (o.purpose ≡ Tell) × (o.workers ≡ 1)
IsOpened (commands.Generate seed size output) s o = IsMade seed size o × (o.purpose ≡ Sum output (items_in seed size)) × (o.workers ≡ 1)

-- the words are a command with this board
pub record IsOpening (words : List GivenWord) (s : Seen) (o : Opened) : Type 0 where
  pub command : Command
  pub asked : asked_today words ≡ Run command
  pub opened : IsOpened command s o

-- the board is that of the text, and 1 to 64 workers may fill it
pub record IsSound (o : Opened) : Type 0 where
  pub rules : Rules
  pub board : IsBoardOf o.text.items rules o.board.board
  pub workers : IsWorkerCount o.workers
