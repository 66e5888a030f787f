use Rattle.std.proofs.Common.{arith}
use Rattle.fill_pool.proofs.Machines.{after_back}
use Rattle.fill_pool.proofs.machine.Machine.give_back.Goals as goal

pub invariant_of-self : goal.invariant_of-self
invariant_of-self g c =
    (after_back g.N.Named.board c.self.inside.slots.items _ c.self.inside.history.items c.self.inside.halted _ c.self.invariant c.args.number c.args.worker _
    c.push-pushed.new.self.items _ (rw (c.as_slice.ensures.value) at (c.is_held_by.ensures.0 c.if-not-is_held_by.false))
    (λ l. c.push-pushed.ensures.succeeds (omega (arith, l, c.self.inside.history.ok))) c.push-pushed.ensures.items c.push-pushed.ensures.capacity).1

pub returns-clause-entered : goal.returns-clause-entered
returns-clause-entered g c = rw (← c.self.view_is) (λ h.
    (after_back g.N.Named.board c.self.inside.slots.items _ c.self.inside.history.items c.self.inside.halted _ c.self.invariant c.args.number c.args.worker _
    c.push-pushed.new.self.items _ (rw (c.as_slice.ensures.value) at (c.is_held_by.ensures.0 c.if-not-is_held_by.false))
    (λ l. c.push-pushed.ensures.succeeds (omega (arith, l, c.self.inside.history.ok))) c.push-pushed.ensures.items c.push-pushed.ensures.capacity).0)
