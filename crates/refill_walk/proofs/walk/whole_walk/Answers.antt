use Rattle.std.proofs.Common.{length, map, arith}
use Rattle.std.proofs.lemmas.List.{length-map}
use Rattle.std.specs.Arc.{arc_value}
use Rattle.refill_laws.specs.Walked.{is_set}
use Rattle.refill_walk.proofs.Places.{task_count}
use Rattle.refill_walk.proofs.Ends.{steps_so_far, steps_broken}
use Rattle.refill_walk.proofs.walk.whole_walk.Goals as goal

pub returns-in_err-walk-clause-most : goal.returns-in_err-walk-clause-most
returns-in_err-walk-clause-most g c =
    let e = c.args.it.now in
    let h = c.requires.edited in
    let fills = c.each.walk.fills in
    let m = task_count e.board.now.board e.tasks.now h.order in
    steps_broken e.filled.now.board e.board.now.board (map arc_value e.olds.now) (is_set e.flags.now) (map arc_value fills.items) c.each.walk.changed.items
    c.each.walk.count h.flagged.ranks h.right c.each.invariant.walked (length fills.items) (length-map fills.items arc_value) c.args.steps.now c.each.steps c.with_next.new.steps
    (omega (arith, m, c.each.invariant.so_far, c.each-test.true)) c.each.invariant.steps c.with_next.ensures.most

pub returns-clause-most : goal.returns-clause-most
returns-clause-most g c =
    let e = c.args.it.now in
    let h = c.requires.edited in
    let fills = c.each.walk.fills in
    let m = task_count e.board.now.board e.tasks.now h.order in
    steps_so_far e.filled.now.board e.board.now.board (map arc_value e.olds.now) (is_set e.flags.now) (map arc_value fills.items) c.each.walk.changed.items
    c.each.walk.count h.flagged.ranks h.right c.each.invariant.walked (length fills.items) (length-map fills.items arc_value) c.args.steps.now c.each.steps
    (omega (arith, m, c.each.invariant.so_far, c.each.auto._rank-end)) c.each.invariant.steps
