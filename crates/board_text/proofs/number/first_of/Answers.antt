use Rattle.std.proofs.Common.{arith, sym, ◌∙◌}
use Rattle.board_text.specs.Numbers.{first_of}
use Rattle.board_text.proofs.Walks.{fault_here, fault_next, fault_none}
use Rattle.board_text.proofs.number.first_of.Goals as goal

pub returns-then-is_some : goal.returns-then-is_some
returns-then-is_some c = fault_here c.args.faults.now c.each.fault-index (first_of c.args.faults.now) c.each-test.true (sym c.is_some.ensures ∙ c.if-is_some.true) c.each.invariant

pub each-preserved : goal.each-preserved
each-preserved c = fault_next c.args.faults.now c.each.fault-index (first_of c.args.faults.now) c.each-test.true (sym c.is_some.ensures ∙ c.if-is_some.false) c.each.invariant

pub returns : goal.returns
returns c = fault_none c.args.faults.now c.each.fault-index (first_of c.args.faults.now) (omega (arith, c.each-test.false)) c.each.invariant
