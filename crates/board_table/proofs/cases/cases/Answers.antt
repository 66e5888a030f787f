use Rattle.std.proofs.Common.{arith, refl}
use Rattle.board_table.proofs.Joined.{joined_more}
use Rattle.board_table.proofs.cases.cases.Goals as goal

pub cases-preserved : goal.cases-preserved
cases-preserved c = (
  joined_more c.cases.found.items c.push.new.self.items _ c.args.text.now c.cases.at c.line_end-behind.result c.title_from-next.result
      (omega (arith, c.line_end-behind.ensures.after)) c.title_from-next.ensures.after c.in_ok-push.ensures.items refl c.cases.invariant.0,
  c.title_from-next.ensures.within,
)
