use Rattle.std.proofs.Common.{arith}
use Rattle.run_rules.proofs.ItemWalks.{row_next, rows_end}
use Rattle.run_rules.proofs.items.items_in.Goals as goal

pub rows-preserved : goal.rows-preserved
rows-preserved c = record {
  items = row_next c.args.size c.rows._row c.rows.walk.state c.rows.walk.items _ _ _ c.rows-test.true c.behind_row-walk.ensures.state c.behind_row-walk.ensures.items c.rows.invariant.items;
  most = omega (arith, c.behind_row-walk.ensures.most, c.rows.invariant.most, c.requires);
}

pub returns : goal.returns
returns c = rows_end c.args.size c.rows._row c.rows.walk.state c.rows.walk.items _ c.rows-test.false c.rows.invariant.items
