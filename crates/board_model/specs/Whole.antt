-- A board that is read, with the version of its text and the stamps of its things.
use Rattle.std.specs.Prelude.{ℕ, List, [], ◌∷◌, ◌++◌, Option, None, Some}
use Rattle.sexpr_text.specs.Items.{Item}
use Rattle.board_language.specs.Board.{Board}
use Rattle.board_language.specs.declared.board.Rules.{Rules}
use Rattle.board_text.specs.Things.{Placed, items_of_board}
use Rattle.board_text.specs.Items.{Context, context_of, version_of}
use Rattle.board_language.specs.Offences.{stamp_of_placed}
use Rattle.board_language.specs.Stamps.{stamped_behind}
use Rattle.board_language.specs.Reading.{IsOffence, board_of}
use Rattle.board_text.specs.declared.stamped.Stamped.{Stamped}
use Rattle.board_model.specs.declared.error.BoardError.{BoardError}
use Rattle.board_model.specs.declared.error.BoardError.TheVariants.{Memory, Bad}
use Rattle.board_items.specs.Stamps.{Table, with_stamps}
use Rattle.board_model.specs.State.{State}

-- a board, the version of its text, and the stamps of its things in the order of the file
pub record Whole : Type 0 where
  pub board : Board
  pub version : ℕ
  pub stamps : Table

-- a board, of its version, layers, nets and what was read
abbrev pub whole_from : ℕ → List (List ℕ) → List ℕ → State → Rules → Whole
whole_from version layers nets s rules =
    record {
      board = record {
        layers = layers;
        nets = nets;
        tracks = s.tracks;
        vias = s.vias;
        pads = s.pads;
        zones = s.zones;
        areas = s.areas;
        edges = s.edges;
        rules = rules;
      };
      version = version;
      stamps = s.stamps;
    }

-- a stamp with its thing, where there is a stamp
abbrev pub stamp_with : Option (List ℕ) → Stamped → Table
stamp_with None thing = []
stamp_with (Some name) thing = (name, thing) ∷ []

-- the stamp of an item that stands behind others
abbrev pub stamp_at : Context → List Placed → Placed → Table
stamp_at c before p = stamp_with (stamp_of_placed c.bytes p) (stamped_behind c before p)

-- the stamps of the items of a list that follow others
unfoldable pub stamps_after : Context → List Placed → List Placed → Table
stamps_after c before [] = []
stamps_after c before (p ∷ ps) = stamp_at c before p ++ stamps_after c (before ++ p ∷ []) ps

-- the stamps of a board, each with the first thing that has it, in the order of the file
unfoldable pub stamps_of_board : List ℕ → Item → Table
stamps_of_board bytes root = with_stamps [] (stamps_after (context_of bytes root) [] (items_of_board bytes root))

-- the board that the root of a text's tree spells, with its version and its stamps
abbrev pub whole_board : List ℕ → Item → Rules → Whole
whole_board bytes root rules = record { board = board_of bytes root rules; version = version_of bytes root; stamps = stamps_of_board bytes root }

-- why the board isn't read: want of memory, or its first offence
abbrev pub IsRefusal : List ℕ → Item → BoardError → Type 0
IsRefusal bytes root Memory = Unit {0}
IsRefusal bytes root (Bad o) = IsOffence bytes root o.at o.line o.kind
