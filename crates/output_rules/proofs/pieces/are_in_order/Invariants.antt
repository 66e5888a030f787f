use Rattle.std.proofs.Common.{map, drop}
use Rattle.output_rules.specs.Pieces.{ArePiecesInOrder}
use Rattle.output_rules.specs.Shown.{piece_shown}
use Rattle.output_rules.proofs.pieces.are_in_order.Given as goal

-- all pieces lie in order exactly where those that are left do, behind those before them
abbrev pub invariant-pieces : goal.invariant-pieces
invariant-pieces l = record {
  on : ArePiecesInOrder 0 l.length (map piece_shown l.pieces) → ArePiecesInOrder l.at l.length (map piece_shown (drop l.piece-index l.pieces));
  back : ArePiecesInOrder l.at l.length (map piece_shown (drop l.piece-index l.pieces)) → ArePiecesInOrder 0 l.length (map piece_shown l.pieces);
}
