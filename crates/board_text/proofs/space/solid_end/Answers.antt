use Rattle.std.proofs.Common.{◌∙◌, sym, arith}
use Rattle.board_text.proofs.Solid.{white, solid, nothing}
use Rattle.board_text.proofs.space.solid_end.Goals as goal

pub back-preserved : goal.back-preserved
back-preserved c = white c.args.bytes.now c.back.solid (omega (arith, c.back-test.true)) (sym c.is_space_at.ensures ∙ c.if-is_space_at.true) ∙ c.back.invariant

pub returns-else-is_space_at : goal.returns-else-is_space_at
returns-else-is_space_at c = solid c.args.bytes.now c.back.solid (omega (arith, c.back-test.true)) (sym c.is_space_at.ensures ∙ c.if-is_space_at.false) ∙ c.back.invariant

pub returns-after-back : goal.returns-after-back
returns-after-back c = nothing c.args.bytes.now c.back.solid (omega (arith, c.back-test.false)) ∙ c.back.invariant
