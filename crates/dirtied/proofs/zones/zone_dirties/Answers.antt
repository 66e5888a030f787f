use Rattle.std.proofs.Common.{refl}
use Rattle.fills.specs.Fills.{task_of}
use Rattle.dirtied.proofs.InReach.{by_own, by_old, told_last}
use Rattle.dirtied.proofs.zones.zone_dirties.Goals as goal

pub returns-then-task-zone : goal.returns-then-task-zone
returns-then-task-zone c =
    (λ e. by_own c.args.old.now.board c.args.new.now.board c.args.zone (task_of c.args.task) c.if-task-zone.true, λ d. refl)

pub returns-then-are_in_reach : goal.returns-then-are_in_reach
returns-then-are_in_reach c =
    (λ e. by_old c.args.old.now.board c.args.new.now.board c.args.zone (task_of c.args.task) (c.are_in_reach.ensures.0 c.if-are_in_reach.true), λ d. refl)

pub returns : goal.returns
returns c =
    told_last c.args.old.now.board c.args.new.now.board c.args.zone (task_of c.args.task) c.are_in_reach.result c.are_in_reach-2.result
    c.if-task-zone.false c.if-are_in_reach.false c.are_in_reach.ensures c.are_in_reach-2.ensures
