use Rattle.std.proofs.Common.{arith}
use Rattle.std.proofs.lemmas.Int.{ints}
use Rattle.scan_runs.proofs.SpanLaws.{no_rows_of, all_rows_of, all_small, span_in_reach}
use Rattle.scan_runs.proofs.strips_of.Goals as goal

pub returns-then-span-clause-rows : goal.returns-then-span-clause-rows
returns-then-span-clause-rows c = rw c.new-out.ensures.items (no_rows_of c.args.octs.now c.span_of-span.result.top c.span_of-span.result.bottom c.span_of-span.ensures (omega (arith, ints)))

pub returns-clause-rows : goal.returns-clause-rows
returns-clause-rows c =
    all_rows_of c.args.octs.now c.span_of-span.result.top c.span_of-span.result.bottom _ _ c.strips.new.out.items c.span_of-span.ensures (omega (arith, ints)) (omega (arith, ints))
    (rw c.new-out.ensures.items at c.in_ok-strips.ensures)

pub returns-clause-small : goal.returns-clause-small
returns-clause-small c = all_small c.args.octs.now _ _ c.strips.new.out.items (rw c.new-out.ensures.items at c.in_ok-strips.ensures)

pub returns-then-span-clause-reach : goal.returns-then-span-clause-reach
returns-then-span-clause-reach c = span_in_reach c.args.octs.now c.span_of-span.result.top c.span_of-span.result.bottom c.span_of-span.ensures

pub returns-clause-reach : goal.returns-clause-reach
returns-clause-reach c = span_in_reach c.args.octs.now c.span_of-span.result.top c.span_of-span.result.bottom c.span_of-span.ensures
