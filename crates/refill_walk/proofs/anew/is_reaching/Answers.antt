use Rattle.refill_walk.proofs.Places.{is_task, by_ranks}
use Rattle.refill_walk.proofs.anew.is_reaching.Goals as goal

pub reach-requires-clause-upper : goal.reach-requires-clause-upper
reach-requires-clause-upper c = is_task c.args.board.now.board c.args.tasks.now c.requires.order c.args.upper _ c.requires.upper

pub reach-requires-clause-lower : goal.reach-requires-clause-lower
reach-requires-clause-lower c = is_task c.args.board.now.board c.args.tasks.now c.requires.order c.args.lower _ c.requires.lower

pub returns : goal.returns
returns c =
    by_ranks c.args.board.now.board c.args.tasks.now c.requires.order c.args.upper c.args.lower _ _ c.reach.result
    c.requires.upper c.requires.lower c.reach.ensures
