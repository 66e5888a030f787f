use Rattle.sheet_union.proofs.Sorted.{rows_are}
use Rattle.sheet_union.proofs.rows.cut_rows.Goals as goal

pub returns-clause-rows : goal.returns-clause-rows
returns-clause-rows c =
    rows_are c.args.octs.now _ _ _ c.requires c.in_ok-rows.ensures.octs c.in_ok-rows.ensures.rows c.sort_unstable.ensures.permutation c.sort_unstable.ensures.sorted c.dedup.ensures.filtered
