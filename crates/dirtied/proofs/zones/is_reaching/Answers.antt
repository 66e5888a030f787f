use Rattle.std.proofs.lemmas.Bool.{false≢true}
use Rattle.fills.specs.Fills.{task_of}
use Rattle.dirtied.proofs.InReach.{no_upper, no_lower, both_there}
use Rattle.dirtied.proofs.zones.is_reaching.Goals as goal

pub returns-then-not-is_task : goal.returns-then-not-is_task
returns-then-not-is_task c =
    (λ e. absurd (false≢true e), λ r. absurd (no_upper c.args.board.now.board (task_of c.args.upper) (task_of c.args.lower) c.is_task.result c.is_task.ensures c.if-not-is_task.true r))

pub returns-then-not-is_task-2 : goal.returns-then-not-is_task-2
returns-then-not-is_task-2 c =
    (λ e. absurd (false≢true e), λ r. absurd (no_lower c.args.board.now.board (task_of c.args.upper) (task_of c.args.lower) c.is_task-2.result c.is_task-2.ensures c.if-not-is_task-2.true r))

pub returns : goal.returns
returns c =
    both_there c.args.board.now.board (task_of c.args.upper) (task_of c.args.lower) c.reach.result (c.is_task.ensures.0 c.if-not-is_task.false) (c.is_task-2.ensures.0 c.if-not-is_task-2.false)
    c.reach.ensures
