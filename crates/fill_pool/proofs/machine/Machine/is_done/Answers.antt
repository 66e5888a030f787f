use Rattle.fill_pool.proofs.Machines.{done_told}
use Rattle.fill_pool.proofs.machine.Machine.is_done.Goals as goal

pub returns : goal.returns
returns g c = rw (← c.self.view_is) (done_told g.N.Named.board c.self.inside.slots.items _ c.self.inside.history.items c.self.inside.halted _ c.self.invariant
    c.as_slice.result.now c.as_slice.ensures.value _ c.all_done.ensures)
