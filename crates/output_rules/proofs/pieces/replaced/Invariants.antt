use Rattle.std.proofs.Common.{◌≡◌, ◌++◌, drop, map, length}
use Rattle.output_rules.specs.Pieces.{ArePiecesInOrder, replaced}
use Rattle.output_rules.specs.Shown.{piece_shown}
use Rattle.output_rules.proofs.pieces.replaced.Given as goal

-- what was written, with what the pieces that are left make of the rest, is all; and they lie in order
abbrev pub invariant-pieces : goal.invariant-pieces
invariant-pieces l = record {
  order : ArePiecesInOrder l.at (length l.text) (map piece_shown (drop l.piece-index l.pieces));
  written : l.out.items ++ replaced l.at (map piece_shown (drop l.piece-index l.pieces)) (drop l.at l.text) ≡ replaced 0 (map piece_shown l.pieces) l.text;
}
