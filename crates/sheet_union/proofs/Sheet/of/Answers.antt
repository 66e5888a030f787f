use Rattle.sheet_union.proofs.Whole.{rows_near, sheet_made, sound_is}
use Rattle.sheet_union.proofs.Sheet.of.Goals as goal

pub swept-requires-clause-near : goal.swept-requires-clause-near
swept-requires-clause-near c = rw c.deref-3.ensures.value (rows_near c.deref.result.now c.in_ok-rows.rows.items c.in_ok-rows.ensures.octs c.in_ok-rows.ensures.rows)

pub invariant_of-result : goal.invariant_of-result
invariant_of-result c =
    sound_is _ _
    (sheet_made c.args.octs.now _ _ _ _ _ _ c.requires c.in_ok-sorted.ensures.order c.in_ok-rows.ensures.octs c.deref.ensures.value c.deref-2.ensures.value c.deref-3.ensures.value
    c.in_ok-rows.ensures.rows c.in_ok-strips.ensures.strips).0
    c.in_ok-strips.ensures.near

pub returns-clause-strips : goal.returns-clause-strips
returns-clause-strips c =
    (sheet_made c.args.octs.now _ _ _ _ _ _ c.requires c.in_ok-sorted.ensures.order c.in_ok-rows.ensures.octs c.deref.ensures.value c.deref-2.ensures.value c.deref-3.ensures.value
    c.in_ok-rows.ensures.rows c.in_ok-strips.ensures.strips).0

pub returns-clause-cover : goal.returns-clause-cover
returns-clause-cover c =
    (sheet_made c.args.octs.now _ _ _ _ _ _ c.requires c.in_ok-sorted.ensures.order c.in_ok-rows.ensures.octs c.deref.ensures.value c.deref-2.ensures.value c.deref-3.ensures.value
    c.in_ok-rows.ensures.rows c.in_ok-strips.ensures.strips).1
