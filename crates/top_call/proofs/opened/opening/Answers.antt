use Rattle.std.proofs.Common.{map, sym, subst}
use Rattle.std.specs.String.{string_bytes}
use Rattle.run_rules.specs.Leaves.{Leaves}
use Rattle.top_call.specs.Today.{today}
use Rattle.top_call.proofs.Cuts.{weaker_err}
use Rattle.top_call.proofs.Owes.{leaves_unasked, leaves_stopped, undone_stop}
use Rattle.top_call.proofs.opened.opening.Goals as goal

pub returns-in-Ok-clause-leaves : goal.returns-in-Ok-clause-leaves
returns-in-Ok-clause-leaves g c =
    weaker_err _ _ c.open_board.result (λ answer h s e. leaves_stopped (map string_bytes c.args.words.now) c.in-Ok.command s answer c.in-Ok.ensures.answer (h s e)) c.open_board.ensures.stopped

pub returns-in-Ok-clause-undone : goal.returns-in-Ok-clause-undone
returns-in-Ok-clause-undone g c = weaker_err _ _ c.open_board.result (λ answer h s e. undone_stop c.in-Ok.command s answer (h s e)) c.open_board.ensures.stopped

pub returns-in-Err-clause-leaves : goal.returns-in-Err-clause-leaves
returns-in-Err-clause-leaves g c s e =
    let words = map string_bytes c.args.words.now in
    subst (λ a. Leaves today a words s s) (sym c.unasked.ensures) (leaves_unasked words s c.in-Err.error c.in-Err.ensures.answer)
