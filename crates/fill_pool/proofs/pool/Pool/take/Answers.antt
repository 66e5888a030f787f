use Rattle.fills.specs.Fills.{task_of}
use Rattle.fill_pool.proofs.Pools.{after_take, after_none, task_is}
use Rattle.fill_pool.proofs.pool.Pool.take.Goals.{in-None, in-Some}
use Rattle.fill_pool.proofs.pool.Pool.take.Goals as goal

pub of-requires-clause-task : goal.of-requires-clause-task
of-requires-clause-task g c =
    task_is task_of g.N.Named.board c.self.inside.tasks.items c.self.invariant.ranks c.in-Some.number c.in-Some.ensures.in_range c.index.result.now c.index.ensures

pub invariant_of-self : goal.invariant_of-self
invariant_of-self g c = elim c.match-take.branch [
  | in-None w ↦ after_none g.N.Named.board c.self.inside.machine _ _ _ _ c.self.invariant c.take.new.self w.in-None.ensures.none
  | in-Some w ↦
      after_take g.N.Named.board c.self.inside.machine _ _ _ _ c.self.invariant c.args.worker w.in-Some.number c.take.new.self w.in-Some.ensures.next w.in-Some.ensures.taken
]
