use Rattle.std.proofs.lemmas.Result.{err_from_is_err_and}
use Rattle.board_edit.proofs.Errors.{err_kept}
use Rattle.refill.specs.declared.error.OpenError.TheVariants.{Memory}
use Rattle.refill.specs.Sessions.{IsOpenRefusal}
use Rattle.refill.proofs.session.Session.open.Goals as goal

pub returns-in_err-fills-clause-refused : goal.returns-in_err-fills-clause-refused
returns-in_err-fills-clause-refused c =
    let p = err_from_is_err_and c.from_residual-in_err-fills.result c.from_residual-in_err-fills.ensures.1 in
    err_kept c.from_residual-in_err-fills.result Memory p.0 (IsOpenRefusal c.args.text.items) p.1 p.2 tt
