use Rattle.std.proofs.Common.{arith, sym, ◌∙◌}
use Rattle.sexpr_text.proofs.Strings.{next_flag, next_quotes}
use Rattle.sexpr_text.proofs.scan.string_end.Goals as goal

pub loop-end-preserved : goal.loop-end-preserved
loop-end-preserved c = (
  omega arith,
  omega arith,
  next_flag _ _ _ _ _ c.loop-end.invariant.0 c.loop-end.invariant.2 c.escapes-escaped.ensures,
  next_quotes _ _ _ _ c.loop-end.invariant.0 c.loop-end.invariant.2 (sym c.closes.ensures ∙ c.if-closes.false) c.loop-end.invariant.3,
)
