use Rattle.dirtied.proofs.Flags.{task_is}
use Rattle.dirtied.proofs.Ranks.{track_on, track_off}
use Rattle.dirtied.proofs.copper.track_dirties.Goals as goal

pub returns-then-track-task : goal.returns-then-track-task
returns-then-track-task c =
    track_on c.args.board.now.board c.args.rank _ c.args.track.now c.args.hulls.now c.is_beside.result
    (task_is c.args.board.now.board c.args.tasks.now c.args.rank _ c.requires.tasks c.requires.rank) c.requires.hulls c.if-track-task.true c.is_beside.ensures

pub returns-else-track-task : goal.returns-else-track-task
returns-else-track-task c =
    track_off c.args.board.now.board c.args.rank _ c.args.track.now (task_is c.args.board.now.board c.args.tasks.now c.args.rank _ c.requires.tasks c.requires.rank) c.if-track-task.false
