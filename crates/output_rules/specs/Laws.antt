-- The laws of what is written and said.
use Rattle.std.specs.Prelude.{◌≡◌, ◌↔◌, ℕ, ◌+◌, ◌-◌, ◌<◌, List, [], length}
use Rattle.classes.specs.Classes.{IsOneOf}
use Rattle.sexpr_text.specs.Items.{Item}
use Rattle.sexpr_text.specs.Trees.{IsRoot}
use Rattle.board_language.specs.declared.board.Rules.{Rules}
use Rattle.board_language.specs.Board.{Board}
use Rattle.board_language.specs.Reading.{board_of}
use Rattle.fill_rules.specs.Ranking.{IsSortedBy}
use Rattle.fill_rules.specs.Made.{Made}
use Rattle.fill_rules.specs.Nodes.{Node, nodes_of}
use Rattle.fill_rules.specs.Clusters.{node_net}
use Rattle.output_rules.specs.Pieces.{Piece, ArePiecesInOrder, AreReplaced, replaced, put_size, out_size}
use Rattle.rings.specs.Rings.{Traced}
use Rattle.output_rules.specs.Output.{board_pieces, text_without_fills, text_with_rings}
use Rattle.output_rules.specs.Report.{Report}
use Rattle.output_rules.specs.Reported.{nets_of, IsReport}

-- Pieces that lie in order within a text are replaced, and all other bytes stay, each in its order: by one text and no other.
pub record ReplacedLaw : Type 0 where
  pub made : (text : List ℕ) (ps : List Piece) → ArePiecesInOrder 0 (length text) ps → AreReplaced 0 ps text (replaced 0 ps text)
  pub one : (text new other : List ℕ) (ps : List Piece) → AreReplaced 0 ps text new → AreReplaced 0 ps text other → new ≡ other
  pub size : (text new : List ℕ) (ps : List Piece) → AreReplaced 0 ps text new → length new + out_size ps ≡ length text + put_size ps

-- some node has this net
pub record IsNetOfNode (b : Board) (fills : List Made) (net : ℕ) : Type 0 where
  pub node : Node
  pub is : IsOneOf node (nodes_of b fills)
  pub net_is : net ≡ node_net b node

-- the order of the numbers of nets
abbrev pub IsBelow : ℕ → ℕ → Type 0
IsBelow m n = m < n

-- The nets of a report are those of its nodes, each once, in the order of their numbers.
pub record NetsLaw : Type 0 where
  pub members : (b : Board) (fills : List Made) (net : ℕ) → IsOneOf net (nets_of b fills) ↔ IsNetOfNode b fills net
  pub sorted : (b : Board) (fills : List Made) → IsSortedBy IsBelow (nets_of b fills)

-- At most one report fits a board, its fills and their outlines.
abbrev pub OneReportLaw : Type 0
OneReportLaw = (b : Board) (fills : List Made) (traced : List Traced) (r s : Report) → IsReport b fills traced r → IsReport b fills traced s → r ≡ s

-- The pieces that the fills of a board replace lie in order within its list, behind the opening parenthesis and before the
-- closing one, and so within its text.
pub record PlacedLaw : Type 0 where
  pub inside : (text : List ℕ) (root : Item) (rules : Rules) (traced : List Traced) → IsRoot text root
      → ArePiecesInOrder (root.from + 1) (root.to - 1) (board_pieces text (board_of text root rules) traced)
  pub within : (text : List ℕ) (root : Item) (rules : Rules) (traced : List Traced) → IsRoot text root
      → ArePiecesInOrder 0 (length text) (board_pieces text (board_of text root rules) traced)

-- So what is written of a board isn't empty.
abbrev pub SomeBytesLaw : Type 0
SomeBytesLaw = (text : List ℕ) (root : Item) (rules : Rules) (traced : List Traced) → IsRoot text root → 0 < length (text_with_rings text (board_of text root rules) traced)

-- Where there are no rings, what is written is the text without its old fills.
abbrev pub BareLaw : Type 0
BareLaw = (text : List ℕ) (b : Board) → ArePiecesInOrder 0 (length text) (board_pieces text b []) → text_with_rings text b [] ≡ text_without_fills text b
