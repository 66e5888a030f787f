-- The laws of the fills that stand in a board's text.
use Rattle.std.specs.Prelude.{◌≡◌, ◌⊎◌, ℕ, ◌≤◌, List, map}
use Rattle.classes.specs.Classes.{IsOneOf}
use Rattle.grid_num.specs.declared.Point.{Point}
use Rattle.sexpr_text.specs.Items.{Item}
use Rattle.sexpr_text.specs.Trees.{IsRoot}
use Rattle.board_text.specs.Items.{context_of}
use Rattle.board_language.specs.declared.board.Rules.{Rules}
use Rattle.board_language.specs.Board.{Board}
use Rattle.board_language.specs.Reading.{board_of}
use Rattle.board_language.specs.Zones.{zone_of}
use Rattle.fill_text.specs.FillLists.{zones_in, bad_fills, AreRingsRead, IsFirstOf}

-- the lists whose fills are read are those of the board's zones, one for each, in their order
abbrev pub ZoneListsLaw : Type 0
ZoneListsLaw = (bytes : List ℕ) (root : Item) (rules : Rules) → (board_of bytes root rules).zones ≡ map (zone_of (context_of bytes root)) (zones_in bytes root)

-- just one of the two is right, whatever the program: the rings of the tasks, or the place of the first fill that can't be read
pub record IsOneReading (bytes : List ℕ) (root : Item) (b : Board) : Type 0 where
  pub some : ((rings : List (List (List Point))) × AreRingsRead bytes root b rings) ⊎ ((at : ℕ) × IsFirstOf (bad_fills bytes root) at)
  pub either : (rings : List (List (List Point))) (at : ℕ) → AreRingsRead bytes root b rings → IsFirstOf (bad_fills bytes root) at → ⊥
  pub rings : (these those : List (List (List Point))) → AreRingsRead bytes root b these → AreRingsRead bytes root b those → these ≡ those
  pub place : (at other : ℕ) → IsFirstOf (bad_fills bytes root) at → IsFirstOf (bad_fills bytes root) other → at ≡ other

abbrev pub OneReadingLaw : Type 0
OneReadingLaw = (bytes : List ℕ) (root : Item) (b : Board) → IsOneReading bytes root b

-- of the fills that can't be read the first one has the least place
abbrev pub LeastPlaceLaw : Type 0
LeastPlaceLaw =
    (bytes : List ℕ) (root : Item) (at : ℕ) → IsRoot bytes root → IsFirstOf (bad_fills bytes root) at → (fill : Item) → IsOneOf fill (bad_fills bytes root) → at ≤ fill.from
