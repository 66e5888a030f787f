use Rattle.std.proofs.Common.{arith}
use Rattle.board_gen.proofs.Walks.{rows_next}
use Rattle.board_gen.proofs.board.add_rows.Goals as goal

pub rows-preserved : goal.rows-preserved
rows-preserved c = record {
  text =
      rows_next c.args.size c.rows.row c.rows.walk.state c.rows.walk.number c.in_ok-walk.walk.state c.in_ok-walk.walk.number _ _ _ c.rows-test.true
      c.in_ok-walk.ensures.state c.in_ok-walk.ensures.number c.in_ok-walk.ensures.text c.rows.invariant.text;
  most = omega (arith, c.in_ok-walk.ensures.most, c.rows.invariant.most, c.requires);
}
