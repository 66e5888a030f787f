use Rattle.std.proofs.Common.{◌∙◌, sym, ap, subst, arith, map, take}
use Rattle.std.proofs.lemmas.List.{length-map, take-map}
use Rattle.std.specs.Arc.{arc_value}
use Rattle.fill_rules.specs.Tasks.{Task}
use Rattle.fill_rules.specs.Ranking.{IsTask}
use Rattle.fill_rules.specs.Made.{Made, no_fill}
use Rattle.zone_fill.specs.First.{IsNextTask}
use Rattle.fill_table.proofs.Standing.{is_task, is_next}
use Rattle.fill_table.proofs.ranked.task_at.Goals as goal

pub returns-clause-task : goal.returns-clause-task
returns-clause-task c =
    let n = length-map c.args.fills.now arc_value in
    subst (IsTask c.args.board.now.board) (sym (c.task_of.ensures ∙ ap (λ (f : Made). f.task) (c.fill_at.ensures no_fill)))
    (is_task c.args.board.now.board (map arc_value c.args.fills.now) c.requires.fills c.args.rank (omega (arith, n, c.requires.rank)))

pub returns-clause-next : goal.returns-clause-next
returns-clause-next c =
    let n = length-map c.args.fills.now arc_value in
    subst (λ (t : Task). IsNextTask c.args.board.now.board t (map arc_value (take c.args.rank c.args.fills.now)))
    (sym (c.task_of.ensures ∙ ap (λ (f : Made). f.task) (c.fill_at.ensures no_fill)))
    (subst (IsNextTask c.args.board.now.board _) (take-map arc_value c.args.rank c.args.fills.now)
    (is_next c.args.board.now.board (map arc_value c.args.fills.now) c.requires.fills c.args.rank (omega (arith, n, c.requires.rank))))
