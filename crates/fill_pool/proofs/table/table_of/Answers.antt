use Rattle.fills.specs.Above.{AreReaching}
use Rattle.fill_pool.proofs.Tables.{no_lists, list_more}
use Rattle.fill_pool.proofs.table.table_of.Goals as goal

pub each-init : goal.each-init
each-init c = no_lists (AreReaching c.args.board.now.board) (λ row. row.items) _ c.new-table.ensures.items

pub each-preserved : goal.each-preserved
each-preserved c =
    list_more (AreReaching c.args.board.now.board) c.each.i (λ row. row.items) c.each.table.items _ c.in_ok-row_of.field-0 c.in_ok-push.ensures.items c.in_ok-row_of.ensures c.each.invariant
