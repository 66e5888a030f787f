use Rattle.sheet_union.proofs.Walks.{one_is}
use Rattle.sheet_union.proofs.rows.put_rows_of.Goals as goal

pub returns-clause-rows : goal.returns-clause-rows
returns-clause-rows c =
    one_is c.args.oct.now c.args.later.now _ _ _ _ _ _ _ c.y0.ensures.oct c.y0.ensures.value c.y1.ensures.value
    c.in_ok-push.ensures.items c.in_ok-push-2.ensures.items c.in_ok-put_half.ensures c.in_ok-put_later.ensures
