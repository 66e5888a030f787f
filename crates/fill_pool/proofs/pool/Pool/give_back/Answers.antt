use Rattle.fill_pool.proofs.Pools.{after_back}
use Rattle.fill_pool.proofs.pool.Pool.give_back.Goals as goal

pub invariant_of-self : goal.invariant_of-self
invariant_of-self g c =
    after_back g.N.Named.board c.self.inside.machine _ _ _ _ c.self.invariant c.give_back-held.result c.worker.result c.number.result c.give_back-held.new.self
    c.give_back-held.ensures.held c.give_back-held.ensures.entered c.give_back-held.ensures.stray
