use Rattle.std.proofs.Common.{arith}
use Rattle.std.proofs.lemmas.Int.{ints}
use Rattle.scan_runs.proofs.SpanLaws.{span_none, span_more, span_all}
use Rattle.scan_runs.proofs.span.span_of.Goals as goal

pub octs-init : goal.octs-init
octs-init c = span_none _ _ (record { low = omega (arith, ints); high = omega (arith, ints) }) (record { low = omega (arith, ints); high = omega (arith, ints) })

pub octs-preserved : goal.octs-preserved
octs-preserved c = span_more c.oct-item.result c.args.octs.now c.octs.oct-index _ _ _ _ c.octs-test.true c.oct-item.is c.octs.invariant c.wider-span.ensures

pub returns : goal.returns
returns c = span_all c.args.octs.now c.octs.oct-index _ _ c.octs-test.false c.octs.invariant
