use Rattle.std.proofs.Common.{sym, ◌∙◌, arith}
use Rattle.scan_runs.proofs.Walk.{none_merged, some_part, walking_first, held_small, walking_left, walking_more, walking_end}
use Rattle.scan_runs.proofs.merge.walked.Goals as goal

pub returns-then-is_empty-clause-some : goal.returns-then-is_empty-clause-some
returns-then-is_empty-clause-some c = rw c.new-runs.ensures.items (none_merged c.args.more c.args.parts.now (sym c.is_empty.ensures ∙ c.if-is_empty.true))

pub parts-init : goal.parts-init
parts-init c = rw c.new-runs.ensures.items (walking_first c.args.more c.args.parts.now _ (some_part c.args.parts.now (sym c.is_empty.ensures ∙ c.if-is_empty.false)) c.requires.parts c.requires.order)

pub put_next-requires-clause-held : goal.put_next-requires-clause-held
put_next-requires-clause-held c = held_small c.args.more c.args.parts.now c.parts.runs.items c.parts.held c.parts.i c.parts.invariant

pub put_next-requires-clause-part : goal.put_next-requires-clause-part
put_next-requires-clause-part c = (c.requires.parts c.parts.i _ (omega arith)).small

pub put_next-requires-clause-left : goal.put_next-requires-clause-left
put_next-requires-clause-left c = walking_left c.args.more c.args.parts.now c.parts.runs.items c.parts.held _ c.parts.i (omega arith) c.parts.invariant

pub parts-preserved : goal.parts-preserved
parts-preserved c =
    walking_more c.args.more _ c.args.parts.now c.parts.runs.items c.put_next.new.out.items c.parts.held c.in-Some.next c.parts.i (omega arith) c.requires.parts c.parts.invariant
    (rw c.in-Some.is at c.in_ok-put_next.ensures.some)

pub returns-clause-some : goal.returns-clause-some
returns-clause-some c = rw c.in_ok-push.ensures.items (walking_end c.args.more c.args.parts.now c.parts.runs.items c.parts.held c.parts.i (omega arith) c.parts.invariant)
