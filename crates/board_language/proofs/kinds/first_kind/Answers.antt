use Rattle.std.proofs.Common.{arith, sym, ◌∙◌}
use Rattle.board_language.specs.Offences.{first_kind}
use Rattle.board_language.proofs.FirstKind.{kind_here, kind_next, kind_none}
use Rattle.board_language.proofs.kinds.first_kind.Goals as goal

pub returns-then-is_some : goal.returns-then-is_some
returns-then-is_some c = kind_here c.args.kinds.now c.each.kind-index (first_kind c.args.kinds.now) c.each-test.true (sym c.is_some.ensures ∙ c.if-is_some.true) c.each.invariant

pub each-preserved : goal.each-preserved
each-preserved c = kind_next c.args.kinds.now c.each.kind-index (first_kind c.args.kinds.now) c.each-test.true (sym c.is_some.ensures ∙ c.if-is_some.false) c.each.invariant

pub returns : goal.returns
returns c = kind_none c.args.kinds.now c.each.kind-index (first_kind c.args.kinds.now) (omega (arith, c.each-test.false)) c.each.invariant
