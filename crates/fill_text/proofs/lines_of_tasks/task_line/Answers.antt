use Rattle.std.proofs.Common.{sym, ◌∙◌, subst}
use Rattle.fill_rules.specs.Ranking.{IsTask}
use Rattle.clusters.proofs.Ranks.{task_of_rank}
use Rattle.fill_text.proofs.lines_of_tasks.task_line.Goals as goal

pub zone_of-requires : goal.zone_of-requires
zone_of-requires c = subst (IsTask c.args.board.now.board) (sym (c.task_of-task.ensures ∙ c.requires.task)) (task_of_rank c.args.board.now.board c.args.rank c.requires.rank)
