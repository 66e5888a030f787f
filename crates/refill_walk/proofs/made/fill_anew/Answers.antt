use Rattle.std.proofs.Common.{sym, subst, length}
use Rattle.std.specs.Arc.{arc_value}
use Rattle.fills.specs.Fills.{task_of, IsFillOf}
use Rattle.refill_walk.proofs.Steps.{made_is}
use Rattle.refill_walk.proofs.made.fill_anew.Goals as goal

pub returns-clause-fill : goal.returns-clause-fill
returns-clause-fill g c =
    subst (λ m. IsFillOf c.args.board.now.board (length c.args.fills.now) m) (sym c.in_ok-new.ensures.ok)
    (made_is c.args.board.now.board (task_of c.args.task) _ arc_value c.args.fills.now c.requires.next c.in_ok-fill.ensures.fill)
