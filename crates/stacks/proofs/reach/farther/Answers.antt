use Rattle.stacks.proofs.Plain.{greater_axis, greater_diagonal}
use Rattle.stacks.proofs.reach.farther.Goals as goal

pub returns-clause-far : goal.returns-clause-far
returns-clause-far c =
    let p = c.requires.p in
    let q = c.requires.q in
    record {
      right = (greater_axis _ _ _ p.right q.right c.greater.ensures).0;
      right_down = (greater_diagonal _ _ _ p.right_down q.right_down c.greater-2.ensures).0;
      down = (greater_axis _ _ _ p.down q.down c.greater-3.ensures).0;
      left_down = (greater_diagonal _ _ _ p.left_down q.left_down c.greater-4.ensures).0;
      left = (greater_axis _ _ _ p.left q.left c.greater-5.ensures).0;
      left_up = (greater_diagonal _ _ _ p.left_up q.left_up c.greater-6.ensures).0;
      up = (greater_axis _ _ _ p.up q.up c.greater-7.ensures).0;
      right_up = (greater_diagonal _ _ _ p.right_up q.right_up c.greater-8.ensures).0;
    }

pub returns-clause-small : goal.returns-clause-small
returns-clause-small c =
    let p = c.requires.p in
    let q = c.requires.q in
    record {
      right = (greater_axis _ _ _ p.right q.right c.greater.ensures).1;
      right_down = (greater_diagonal _ _ _ p.right_down q.right_down c.greater-2.ensures).1;
      down = (greater_axis _ _ _ p.down q.down c.greater-3.ensures).1;
      left_down = (greater_diagonal _ _ _ p.left_down q.left_down c.greater-4.ensures).1;
      left = (greater_axis _ _ _ p.left q.left c.greater-5.ensures).1;
      left_up = (greater_diagonal _ _ _ p.left_up q.left_up c.greater-6.ensures).1;
      up = (greater_axis _ _ _ p.up q.up c.greater-7.ensures).1;
      right_up = (greater_diagonal _ _ _ p.right_up q.right_up c.greater-8.ensures).1;
    }
