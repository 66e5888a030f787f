-- What an editor's session holds, and what each of its calls makes of it.
use Rattle.std.specs.Prelude.{◌≡◌, ℕ, Bool, false, List, length}
use Rattle.sexpr_text.specs.Items.{Item}
use Rattle.sexpr_text.specs.Trees.{IsRoot}
use Rattle.sexpr_text.specs.Faults.{IsFault}
use Rattle.board_language.specs.declared.board.Rules.{Rules}
use Rattle.board_language.specs.Reading.{IsOffence}
use Rattle.board_model.specs.Whole.{Whole}
use Rattle.fill_rules.specs.Tasks.{ranked}
use Rattle.fill_rules.specs.Made.{Made}
use Rattle.fills.specs.Fills.{AreBoardFills}
use Rattle.edit_language.specs.declared.edit.Edit.{Edit}
use Rattle.edit_language.specs.Edited.{IsAcceptedEdit}
use Rattle.board_edit.specs.Edited.{IsReadOf}
use Rattle.refill_laws.specs.OneEdit.{old_rank}
use Rattle.refill_laws.specs.Flags.{AreFlags, AreNextFlags}
use Rattle.refill_laws.specs.Walked.{is_set}
use Rattle.refill_walk.specs.Refill.{IsDirtyCount, AreStepsWithin}
use Rattle.refill.specs.declared.error.OpenError.{OpenError}
use Rattle.refill.specs.declared.error.OpenError.TheVariants.{Memory, Text, Board}

-- ---- what a session holds

-- The text and its board, as edits have made them; the board that was filled last, with its fills in the order of its ranks; and
-- for each task of the edited board, by its rank there, whether edits since then dirtied it directly.
pub record State : Type 0 where
  pub text : List ℕ
  pub board : Whole
  pub filled : Whole
  pub fills : List Made
  pub dirty : List Bool

-- each task of the board has a flag, and none is set
pub record IsClean (s : State) : Type 0 where
  pub all : length s.dirty ≡ length (ranked s.board.board)
  pub none : (k : ℕ) → is_set s.dirty k ≡ false

-- What always holds of a session: the board is that of the text, the fills are those of the filled board, and each task that
-- isn't flagged is untouched since that was filled. An edit takes no zone away, and changes no rules.
pub record IsSoundState (s : State) : Type 0 where
  pub read : IsReadOf s.text s.board
  pub fills : AreBoardFills s.filled.board s.fills
  pub all : length s.dirty ≡ length (ranked s.board.board)
  pub flags : AreFlags s.filled.board s.board.board (old_rank s.filled.board s.board.board) (is_set s.dirty)
  pub zones : length s.filled.board.zones ≡ length s.board.board.zones
  pub rules : s.filled.board.rules ≡ s.board.board.rules

-- ---- a new session

-- Its text and its board are these; the board is filled, and nothing is dirty.
pub record IsNewOf (text : List ℕ) (b : Whole) (s : State) : Type 0 where
  pub text_is : s.text ≡ text
  pub board_is : s.board ≡ b
  pub filled_is : s.filled ≡ b
  pub fills : AreBoardFills b.board s.fills
  pub clean : IsClean s

-- It is a new one of the text's board under these rules.
pub record IsOpened (text : List ℕ) (rules : Rules) (s : State) : Type 0 where
  pub read : IsReadOf text s.board
  pub rules_are : s.board.board.rules ≡ rules
  pub new : IsNewOf text s.board s

-- The text is refused: by its fault, or by the first offence of its board; want of memory aside.
abbrev pub IsOpenRefusal : List ℕ → OpenError → Type 0
IsOpenRefusal text Memory = Unit {0}
IsOpenRefusal text (Text fault) = IsFault text fault.at fault.kind
IsOpenRefusal text (Board offence) = (root : Item) × IsRoot text root × IsOffence text root offence.at offence.line offence.kind

-- ---- an edit

-- The edit is accepted, and its text and board are there. What was filled stays. A task is dirty, whatever its rank is now, where
-- it was, and where the edit dirties it directly.
pub record IsApplied (edit : Edit) (old new : State) : Type 0 where
  pub accepted : IsAcceptedEdit old.text edit new.text
  pub read : IsReadOf new.text new.board
  pub rules : new.board.board.rules ≡ old.board.board.rules
  pub filled : new.filled ≡ old.filled
  pub fills : new.fills ≡ old.fills
  pub all : length new.dirty ≡ length (ranked new.board.board)
  pub dirty : AreNextFlags old.text new.text old.board.board.rules old.board.board new.board.board edit
      (old_rank old.board.board new.board.board) (is_set old.dirty) (is_set new.dirty)

-- ---- a refill

-- The edited board is filled, and nothing is dirty any more. So many tasks were in the dirty set: those that can be come to
-- from dirty ones, each time from a task whose list of pieces is another than before to one that it reaches.
pub record IsRefilled (n : ℕ) (old new : State) : Type 0 where
  pub text : new.text ≡ old.text
  pub board : new.board ≡ old.board
  pub filled : new.filled ≡ old.board
  pub fills : AreBoardFills new.board.board new.fills
  pub clean : IsClean new
  pub count : IsDirtyCount old.filled.board old.fills new.board.board new.fills (is_set old.dirty) n

-- As many steps were counted as the dirty set has tasks, or fewer.
abbrev pub TakesAtMost : State → (before now : ℕ) → Type 0
TakesAtMost s before now = AreStepsWithin s.filled.board s.board.board (is_set s.dirty) before now
