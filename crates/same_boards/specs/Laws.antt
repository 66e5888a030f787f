-- Boards are told by the contents of their texts, whatever the places; and so are their fills.
use Rattle.std.specs.Prelude.{◌≡◌, ℕ, List}
use Rattle.sexpr_text.specs.Items.{Item}
use Rattle.board_text.specs.Things.{Placed}
use Rattle.board_text.specs.Items.{Context}
use Rattle.board_language.specs.declared.board.Rules.{Rules}
use Rattle.board_language.specs.Board.{Board}
use Rattle.board_language.specs.Facts.{IsSoundBoard}
use Rattle.board_language.specs.Reading.{board_in, board_of, AreSound, IsAccepted}
use Rattle.fill_rules.specs.Tasks.{ranked, task_at}
use Rattle.fill_rules.specs.Reach.{IsReaching}
use Rattle.fill_rules.specs.Fill.{fill_of}
use Rattle.fill_rules.specs.Dirty.{IsLike, IsSameFill, IsSameMade, IsUntouched}
use Rattle.fill_rules.specs.Made.{Made}
use Rattle.fills.specs.Fills.{IsFillOf, AreBoardFills}
use Rattle.same_boards.specs.Contents.{HaveSameContents, AreSameItems}
use Rattle.same_boards.specs.Alike.{AreAlike}

-- texts of the same contents have boards that are alike
abbrev pub SameBoardLaw : Type 0
SameBoardLaw =
    (text other : List ℕ) (root last : Item) (rules : Rules) → HaveSameContents text root other last
    → AreAlike (board_of text root rules) (board_of other last rules)

-- and the one is accepted where the other is
abbrev pub SameAcceptedLaw : Type 0
SameAcceptedLaw = (text other : List ℕ) (root last : Item) → HaveSameContents text root other last → IsAccepted text root → IsAccepted other last

-- what holds for both boards: their layers and nets
pub record IsSameContext (c d : Context) : Type 0 where
  pub copper : c.copper ≡ d.copper
  pub nets : c.nets ≡ d.nets

-- the same of any items that have the same contents one by one, on boards with the same layers and nets
abbrev pub SameItemsLaw : Type 0
SameItemsLaw =
    (c d : Context) (items others : List Placed) (rules : Rules) → IsSameContext c d → AreSameItems c.bytes d.bytes items others
    → AreAlike (board_in c items rules) (board_in d others rules)

-- and of whether they offend
abbrev pub SoundItemsLaw : Type 0
SoundItemsLaw =
    (c d : Context) (items others : List Placed) → IsSameContext c d → AreSameItems c.bytes d.bytes items others → AreSound c items → AreSound d others

-- A task that no edit touched, and whose reaching tasks have the fills that they had, is made of the same centres and spokes
-- as before.
abbrev pub FollowLaw : Type 0
FollowLaw =
    (b d : Board) → IsSoundBoard b → IsSoundBoard d → (old : ℕ → ℕ) (k : ℕ) → IsUntouched b d old k
    → ((m : ℕ) → IsReaching d m k → IsSameFill (fill_of b) (fill_of d) (old m) m) → IsSameMade b d (fill_of b) (fill_of d) (old k) k

-- the fill of a task is that of a task that is made of the same centres and spokes
abbrev pub CarryLaw : Type 0
CarryLaw =
    (b d : Board) (i k : ℕ) (f : Made) → IsLike b d i k → IsSameMade b d (fill_of b) (fill_of d) i k → task_at b i ≡ task_at d k
    → IsFillOf b i f → IsFillOf d k f

-- boards that are alike have the same tasks in rank order
abbrev pub SameRanksLaw : Type 0
SameRanksLaw = (b d : Board) → AreAlike b d → ranked b ≡ ranked d

-- and the same fills
abbrev pub SameFillsLaw : Type 0
SameFillsLaw = (b d : Board) → IsSoundBoard b → IsSoundBoard d → AreAlike b d → (fills : List Made) → AreBoardFills b fills → AreBoardFills d fills
