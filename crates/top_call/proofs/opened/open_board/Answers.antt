use Rattle.std.proofs.Common.{sym, subst, IfOk}
use Rattle.std.proofs.lemmas.Result.{IfOk-weaker}
use Rattle.desk.specs.Seen.{Told}
use Rattle.top_call.specs.Opened.{IsOpened}
use Rattle.top_call.proofs.opened.open_board.Goals as goal

pub returns-clause-opened : goal.returns-clause-opened
returns-clause-opened g c =
    subst (λ k. IfOk c.opened_made.result (λ o. Told (g.D.Desk.seen c.args.desk.now) (λ s. IsOpened k s o))) (sym c.in-Generate.is)
    (IfOk-weaker c.opened_made.result _ _ (λ o h s e. h s) c.opened_made.ensures.opened)
