use Rattle.bins.proofs.Walks.{walk_skips, walked_to, walk_leaf, walk_inner}
use Rattle.bins.proofs.walk.step.Goals as goal
use Rattle.bins.proofs.walk.step.Goals.{then-block+in_ok-add_meeting, else-block}

pub returns-then-misses-clause-walked : goal.returns-then-misses-clause-walked
returns-then-misses-clause-walked c = walk_skips c.args.octs.now c.args.blocks.now c.args.oct.now c.args.at _ c.requires.blocks c.requires.at (c.misses.ensures c.if-misses.true) c.requires.walked

pub add_meeting-requires-clause-before : goal.add_meeting-requires-clause-before
add_meeting-requires-clause-before c = walked_to c.args.octs.now c.args.blocks.now c.args.oct.now c.args.at _ c.requires.at c.requires.walked

pub returns-clause-walked : goal.returns-clause-walked
returns-clause-walked c = elim c.if-block.branch [
  | then-block+in_ok-add_meeting w ↦ rw (w.into-is)
      (walk_leaf c.args.octs.now c.args.blocks.now c.args.oct.now c.args.at _ c.requires.blocks c.requires.at w.if-block.true w.in_ok-add_meeting.ensures)
  | else-block w ↦ rw (w.into-is)
      (walk_inner c.args.octs.now c.args.blocks.now c.args.oct.now c.args.at _ c.requires.blocks c.requires.at w.if-block.false c.requires.walked)
]
