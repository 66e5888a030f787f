use Rattle.fill_pool.proofs.Rows.{ready_by}
use Rattle.fill_pool.proofs.slots.is_ready.Goals as goal

pub returns : goal.returns
returns c =
    ready_by (λ v. v.items) c.args.table.now c.args.slots.now c.args.i c.index-table-i.result c.requires c.index-table-i.is
    (c.is_waiting.ensures.0 c.if-not-is_waiting.false) c.all_finished.result (rw (← c.as_slice.ensures.value) c.all_finished.ensures)
