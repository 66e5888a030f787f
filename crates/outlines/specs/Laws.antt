-- The laws of the outlines of a board's fills: that they can be drawn, and what they cover.
use Rattle.std.specs.Prelude.{ℕ, List}
use Rattle.std.specs.List.{All}
use Rattle.board_language.specs.Board.{Board}
use Rattle.board_language.specs.Facts.{IsSoundBoard}
use Rattle.fill_rules.specs.Made.{Made}
use Rattle.fills.specs.Fills.{IsFillOf, AreBoardFills}
use Rattle.rings.specs.Rings.{Traced}
use Rattle.output_rules.specs.Traced.{AreTracedOf}
use Rattle.outlines.specs.Drawn.{ArePiecesDrawable, AreCovered}

-- The pieces of a task's fill have points strictly inside, and lie within half a metre: each is a cell plus the brush, or a spoke
-- as wide as the brush at least, and lies in the frame of the zone's outline.
abbrev pub DrawableLaw : Type 0
DrawableLaw = (b : Board) → IsSoundBoard b → (i : ℕ) (f : Made) → IsFillOf b i f → ArePiecesDrawable f.pieces

-- and so those of all fills of a board
abbrev pub AllDrawableLaw : Type 0
AllDrawableLaw = (b : Board) → IsSoundBoard b → (all : List Made) → AreBoardFills b all → All (λ (f : Made). ArePiecesDrawable f.pieces) all

-- Whatever outlines are those of the fills of a board, they cover exactly the points of the fills' pieces.
abbrev pub AllCoveredLaw : Type 0
AllCoveredLaw =
    (b : Board) → IsSoundBoard b → (all : List Made) (traced : List Traced) → AreBoardFills b all → AreTracedOf all traced
    → AreCovered all traced
