use Rattle.fill_pool.proofs.Machines.{halted_told}
use Rattle.fill_pool.proofs.machine.Machine.is_halted.Goals as goal

pub returns : goal.returns
returns g c = rw (← c.self.view_is) (halted_told g.N.Named.board c.self.inside.slots.items _ c.self.inside.history.items c.self.inside.halted _ c.self.invariant)
