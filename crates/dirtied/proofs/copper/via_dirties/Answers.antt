use Rattle.dirtied.proofs.Flags.{task_is}
use Rattle.dirtied.proofs.Ranks.{via_on, via_off}
use Rattle.dirtied.proofs.copper.via_dirties.Goals as goal

pub returns-then-has_layer : goal.returns-then-has_layer
returns-then-has_layer c =
    via_on c.args.board.now.board c.args.rank _ c.args.via.now c.args.hulls.now c.has_layer.result c.is_beside.result
    (task_is c.args.board.now.board c.args.tasks.now c.args.rank _ c.requires.tasks c.requires.rank) c.requires.hulls c.has_layer.ensures c.if-has_layer.true c.is_beside.ensures

pub returns-else-has_layer : goal.returns-else-has_layer
returns-else-has_layer c =
    via_off c.args.board.now.board c.args.rank _ c.args.via.now c.has_layer.result (task_is c.args.board.now.board c.args.tasks.now c.args.rank _ c.requires.tasks c.requires.rank)
    c.has_layer.ensures c.if-has_layer.false
