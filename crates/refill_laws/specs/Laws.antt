-- A refill that fills again only what edits dirtied gives the fills of the edited board.
use Rattle.std.specs.Prelude.{◌≡◌, ◌↔◌, ◌⊎◌, ℕ, ◌+◌, ◌≤◌, ◌<◌, Bool, true, false, List, [], ◌∷◌, ◌++◌, length, get_or}
use Rattle.board_language.specs.declared.board.Rules.{Rules}
use Rattle.board_language.specs.Board.{Board}
use Rattle.board_language.specs.Facts.{IsSoundBoard}
use Rattle.fill_rules.specs.Tasks.{Task, ranked}
use Rattle.fill_rules.specs.Made.{Made, no_fill}
use Rattle.fill_rules.specs.Dirty.{IsUntouched}
use Rattle.fills.specs.Fills.{IsFillOf, AreBoardFills}
use Rattle.edit_language.specs.declared.edit.Edit.{Edit}
use Rattle.edit_language.specs.Edited.{IsAcceptedEdit, IsEdited, IsBoardOf}
use Rattle.dirty_rules.specs.Dirty.{IsRankOf, IsDirtying, IsDirtied, IsInDirtySet, AreOldRanks}
use Rattle.refill_laws.specs.OneEdit.{LeadsTo, old_rank}
use Rattle.refill_laws.specs.Flags.{AreFlags, AreNextFlags, AreFlagsOf}
use Rattle.refill_laws.specs.Walks.{AreFillsSoFar, HasOldPieces, MayStay, IsWalk, IsReachedAnew, AreFilledAgain, TellsPieces, TellsChange, IsRefill, IsDirtyByFlags, numbers_with, AreTasksWith}

-- ---- one edit

-- each task of the new board has a rank on the old one
abbrev pub RanksLaw : Type 0
RanksLaw =
    (text new : List ℕ) (rules : Rules) (b d : Board) (edit : Edit) → LeadsTo text new rules b d edit → AreOldRanks b d (old_rank b d)

-- and one rank alone
abbrev pub OneRankLaw : Type 0
OneRankLaw =
    (b d : Board) (old other : ℕ → ℕ) → AreOldRanks b d old → AreOldRanks b d other → (m : ℕ) → m < length (ranked d) → old m ≡ other m

-- wherever tasks have old ranks, these are found by the tasks
abbrev pub FoundLaw : Type 0
FoundLaw = (b d : Board) (old : ℕ → ℕ) → AreOldRanks b d old → AreOldRanks b d (old_rank b d)

-- there are as many zones as there were
abbrev pub ZonesLaw : Type 0
ZonesLaw =
    (text new : List ℕ) (rules : Rules) (b d : Board) (edit : Edit) → LeadsTo text new rules b d edit → length b.zones ≡ length d.zones

-- a task that the edit doesn't dirty is untouched
abbrev pub EditLaw : Type 0
EditLaw =
    (text new : List ℕ) (rules : Rules) (b d : Board) (edit : Edit) → LeadsTo text new rules b d edit → 1 ≤ d.rules.floor
    → (old : ℕ → ℕ) → AreOldRanks b d old → (k : ℕ) → k < length (ranked d)
    → (IsDirtying text new rules b d edit k → ⊥) → IsUntouched b d old k

-- ---- edit after edit

-- a task that is untouched from the first board to the second, and from there to the third, is untouched from the first to
-- the third
abbrev pub ChainLaw : Type 0
ChainLaw =
    (first second third : Board) (older old : ℕ → ℕ) (k : ℕ) → IsUntouched second third old k → IsUntouched first second older (old k)
    → IsUntouched first third (λ (m : ℕ). older (old m)) k

-- and so do old ranks follow each other
abbrev pub ChainRanksLaw : Type 0
ChainRanksLaw =
    (first second third : Board) (older old : ℕ → ℕ) → AreOldRanks second third old → AreOldRanks first second older
    → AreOldRanks first third (λ (m : ℕ). older (old m))

-- on one and the same board nothing is touched
abbrev pub SameLaw : Type 0
SameLaw = (b : Board) → AreFlags b b (λ (m : ℕ). m) (λ (k : ℕ). false)

-- flags are right whatever tells the old ranks
abbrev pub RenamedLaw : Type 0
RenamedLaw =
    (filled b : Board) (old other : ℕ → ℕ) (flagged : ℕ → Bool) → AreFlags filled b old flagged → AreOldRanks filled b other
    → AreFlags filled b other flagged

-- flags are kept from edit to edit, by what was flagged and what the edit dirties
abbrev pub NextFlagsLaw : Type 0
NextFlagsLaw =
    (text new : List ℕ) (rules : Rules) (filled b d : Board) (edit : Edit) → LeadsTo text new rules b d edit → 1 ≤ d.rules.floor
    → (older old : ℕ → ℕ) (flagged next : ℕ → Bool) → AreFlags filled b older flagged → AreOldRanks b d old
    → AreNextFlags text new rules b d edit old flagged next → AreFlags filled d (λ (m : ℕ). older (old m)) next

-- ---- what a list of edits dirties

-- no edit dirties nothing
abbrev pub NoEditLaw : Type 0
NoEditLaw = (text : List ℕ) (rules : Rules) (t : Task) → IsDirtied text [] rules t → ⊥

-- a list with one more edit dirties what the list does, and what the last edit does
abbrev pub SnocLaw : Type 0
SnocLaw =
    (text so_far new : List ℕ) (list : List Edit) (rules : Rules) (b d : Board) (edit : Edit) → IsEdited text list so_far
    → IsAcceptedEdit so_far edit new → IsBoardOf so_far rules b → IsBoardOf new rules d → (k : ℕ) (t : Task) → IsRankOf d k t
    → IsDirtied text (list ++ edit ∷ []) rules t ↔ (IsDirtied text list rules t ⊎ IsDirtying so_far new rules b d edit k)

-- so flags that are kept from edit to edit tell what the list dirties
abbrev pub FlagsLaw : Type 0
FlagsLaw =
    (text so_far new : List ℕ) (list : List Edit) (rules : Rules) (b d : Board) (edit : Edit) → IsEdited text list so_far
    → IsAcceptedEdit so_far edit new → IsBoardOf so_far rules b → IsBoardOf new rules d → (old : ℕ → ℕ) (flagged next : ℕ → Bool)
    → AreOldRanks b d old → AreFlagsOf text list rules b flagged → AreNextFlags so_far new rules b d edit old flagged next
    → AreFlagsOf text (list ++ edit ∷ []) rules d next

-- ---- the walk

-- where the fills so far are right, and the next task may keep its fill, its old fill is right
abbrev pub KeepLaw : Type 0
KeepLaw =
    (b d : Board) → IsSoundBoard b → IsSoundBoard d → (old : ℕ → ℕ) (olds fills : List Made) → AreOldRanks b d old → AreBoardFills b olds
    → AreFillsSoFar d fills → length fills < length (ranked d) → MayStay b d old olds fills (length fills)
    → IsFillOf d (length fills) (get_or olds (old (length fills)) no_fill)

-- with a right fill of the next task they are the fills of one task more
abbrev pub NextFillLaw : Type 0
NextFillLaw =
    (d : Board) (fills : List Made) (f : Made) → AreFillsSoFar d fills → IsFillOf d (length fills) f → AreFillsSoFar d (fills ++ f ∷ [])

-- and with that of the last they are the board's
abbrev pub AllFillsLaw : Type 0
AllFillsLaw = (d : Board) (fills : List Made) → AreFillsSoFar d fills → length fills ≡ length (ranked d) → AreBoardFills d fills

-- so a walk gives the fills of the edited board
abbrev pub WalkLaw : Type 0
WalkLaw =
    (b d : Board) → IsSoundBoard b → IsSoundBoard d → (old : ℕ → ℕ) (olds fills : List Made) → AreOldRanks b d old → AreBoardFills b olds
    → IsWalk b d old olds fills → AreBoardFills d fills

-- a task that isn't flagged, and that no changed fill reaches, may keep its fill, where the tasks before it that weren't filled
-- again kept theirs
abbrev pub StayLaw : Type 0
StayLaw =
    (b d : Board) (old : ℕ → ℕ) (olds fills : List Made) (flagged changed again : ℕ → Bool) → AreFlags b d old flagged
    → TellsPieces old olds fills changed → ((m : ℕ) → m < length fills → again m ≡ false → HasOldPieces olds old fills m)
    → length fills < length (ranked d) → flagged (length fills) ≡ false → (IsReachedAnew d changed again (length fills) → ⊥)
    → MayStay b d old olds fills (length fills)

-- what flags tell to fill again is enough: the fills are those of the edited board
abbrev pub RefillLaw : Type 0
RefillLaw =
    (b d : Board) → IsSoundBoard b → IsSoundBoard d → (old : ℕ → ℕ) (olds fills : List Made) (flagged changed again : ℕ → Bool)
    → AreFlags b d old flagged → AreBoardFills b olds → IsRefill d old olds fills flagged changed again → AreBoardFills d fills

-- ---- which tasks are filled again

-- a walk fills exactly the tasks again that can be come to from flagged ones
abbrev pub AgainLaw : Type 0
AgainLaw =
    (d : Board) (n : ℕ) (flagged changed again : ℕ → Bool) → AreFilledAgain d n flagged changed again
    → (k : ℕ) → k < n → (again k ≡ true) ↔ IsDirtyByFlags d flagged changed k

-- with the flags of a list of edits these are exactly its dirty set
abbrev pub DirtySetLaw : Type 0
DirtySetLaw =
    (text : List ℕ) (list : List Edit) (rules : Rules) (d : Board) (flagged changed again : ℕ → Bool)
    → AreFlagsOf text list rules d flagged → AreFilledAgain d (length (ranked d)) flagged changed again
    → (k : ℕ) → k < length (ranked d) → (again k ≡ true) ↔ IsInDirtySet text list rules d changed k

-- what can be come to from the flags of a list of edits is its dirty set
abbrev pub SameDirtyLaw : Type 0
SameDirtyLaw =
    (text : List ℕ) (list : List Edit) (rules : Rules) (d : Board) (flagged changed : ℕ → Bool) → AreFlagsOf text list rules d flagged
    → (k : ℕ) → k < length (ranked d) → IsDirtyByFlags d flagged changed k ↔ IsInDirtySet text list rules d changed k

-- so the ranks of the tasks that are filled again, upward, are the list of all that can be come to
abbrev pub CountLaw : Type 0
CountLaw =
    (d : Board) (flagged changed again : ℕ → Bool) → AreFilledAgain d (length (ranked d)) flagged changed again
    → AreTasksWith d (λ (k : ℕ). IsDirtyByFlags d flagged changed k) (numbers_with again (length (ranked d)))

-- or, with the flags of a list of edits, of its dirty set
abbrev pub DirtyCountLaw : Type 0
DirtyCountLaw =
    (text : List ℕ) (list : List Edit) (rules : Rules) (d : Board) (flagged changed again : ℕ → Bool)
    → AreFlagsOf text list rules d flagged → AreFilledAgain d (length (ranked d)) flagged changed again
    → AreTasksWith d (λ (k : ℕ). IsInDirtySet text list rules d changed k) (numbers_with again (length (ranked d)))

-- each such list has as many
abbrev pub OneCountLaw : Type 0
OneCountLaw =
    (d : Board) (flagged changed : ℕ → Bool) (ranks others : List ℕ) → AreTasksWith d (λ (k : ℕ). IsDirtyByFlags d flagged changed k) ranks
    → AreTasksWith d (λ (k : ℕ). IsDirtyByFlags d flagged changed k) others → length ranks ≡ length others

-- And a walk that was broken off fills no more tasks again than there are in it: its first n tasks, where the fills of all but
-- the last of them are known. `told` tells of these whether they changed, `changed` of all.
abbrev pub BrokenWalkLaw : Type 0
BrokenWalkLaw =
    (b d : Board) (old : ℕ → ℕ) (olds fills : List Made) (flagged told changed again : ℕ → Bool) → AreOldRanks b d old → AreBoardFills b olds
    → AreFillsSoFar d fills → TellsPieces old olds fills told → TellsChange b d old changed
    → (n : ℕ) → n ≤ length (ranked d) → n ≤ length fills + 1 → AreFilledAgain d n flagged told again
    → (ranks : List ℕ) → AreTasksWith d (λ (k : ℕ). IsDirtyByFlags d flagged changed k) ranks
    → length (numbers_with again n) ≤ length ranks
