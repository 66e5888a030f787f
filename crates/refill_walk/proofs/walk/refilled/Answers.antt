use Rattle.std.proofs.Common.{ap, length, map, List, arith}
use Rattle.std.proofs.lemmas.List.{length-map}
use Rattle.std.specs.Arc.{arc_value}
use Rattle.fills.specs.declared.Task.{Task}
use Rattle.refill_laws.specs.Walked.{is_set}
use Rattle.refill_walk.proofs.Places.{task_count}
use Rattle.refill_walk.proofs.Ends.{dirty_count}
use Rattle.refill_walk.proofs.walk.refilled.Goals as goal

pub returns-clause-count : goal.returns-clause-count
returns-clause-count g c =
    let fills = c.in_ok-walk.walk.fills in
    let m = task_count c.args.board.now.board c.in_ok-tasks.tasks.items c.in_ok-tasks.ensures.order in
    let d = ap (λ (ts : List Task). length ts) c.deref-2.ensures.value in
    dirty_count c.args.filled.now.board c.args.board.now.board (map arc_value c.args.olds.now) (is_set c.args.flags.now) (map arc_value fills.items)
    c.in_ok-walk.walk.changed.items c.in_ok-walk.walk.count c.requires.flags.ranks c.requires.olds c.in_ok-walk.ensures.walked (length fills.items)
    (length-map fills.items arc_value) c.requires.zones (omega (arith, m, d, c.in_ok-walk.ensures.all))
