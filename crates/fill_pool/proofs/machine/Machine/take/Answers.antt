use Rattle.std.proofs.Common.{sym, ◌∙◌, subst, List, arith, inl, inr}
use Rattle.pool_rules.specs.declared.PoolEvent.{PoolEvent}
use Rattle.fill_pool.specs.Runs.{IsHalted, NoneReady, IsNext, IsHeldBy}
use Rattle.fill_pool.proofs.Boards.{waiting_in}
use Rattle.fill_pool.proofs.Machines.{sized, few_slots, next_row, none_row, on_halt, after_take, taken_holds, length_map}
use Rattle.fill_pool.proofs.machine.Machine.take.Goals as goal

pub first_ready-requires-clause-same : goal.first_ready-requires-clause-same
first_ready-requires-clause-same g c =
    rw (c.as_slice-2.ensures.value, c.as_slice.ensures.value)
    (sym (length_map (λ v. v.items) c.self.inside.table.items) ∙ (c.self.invariant.table_is.rows ∙ sym (sized _ _ _ _ _ _ c.self.invariant)))

pub first_ready-requires-clause-few : goal.first_ready-requires-clause-few
first_ready-requires-clause-few g c = rw c.as_slice.ensures.value (few_slots _ _ _ _ _ _ c.self.invariant)

pub returns-in-Some-clause-next : goal.returns-in-Some-clause-next
returns-in-Some-clause-next g c =
    subst (λ (es : List PoolEvent). IsNext g.N.Named.board es c.in-Some.number) c.self.view_is
    (next_row g.N.Named.board c.self.inside.slots.items _ c.self.inside.history.items c.self.inside.halted _ c.self.invariant c.if-self.false c.in-Some.number
    (rw (c.as_slice-2.ensures.value, c.as_slice.ensures.value) at c.in-Some.ensures.ready)
    (rw (c.as_slice-2.ensures.value, c.as_slice.ensures.value) at c.in-Some.ensures.first))

pub invariant_of-self : goal.invariant_of-self
invariant_of-self g c =
    let n = next_row g.N.Named.board c.self.inside.slots.items _ c.self.inside.history.items c.self.inside.halted _ c.self.invariant c.if-self.false c.in-Some.number
    (rw (c.as_slice-2.ensures.value, c.as_slice.ensures.value) at c.in-Some.ensures.ready)
    (rw (c.as_slice-2.ensures.value, c.as_slice.ensures.value) at c.in-Some.ensures.first) in
    (after_take g.N.Named.board c.self.inside.slots.items _ c.self.inside.history.items c.self.inside.halted _ c.self.invariant c.in-Some.number c.args.worker _
    c.push-pushed.new.self.items _ n
    (λ l. c.push-pushed.ensures.succeeds (omega (arith, l, c.self.inside.history.ok))) c.push-pushed.ensures.items c.push-pushed.ensures.capacity).1

pub returns-in-Some-clause-taken : goal.returns-in-Some-clause-taken
returns-in-Some-clause-taken g c =
    let n = next_row g.N.Named.board c.self.inside.slots.items _ c.self.inside.history.items c.self.inside.halted _ c.self.invariant c.if-self.false c.in-Some.number
    (rw (c.as_slice-2.ensures.value, c.as_slice.ensures.value) at c.in-Some.ensures.ready)
    (rw (c.as_slice-2.ensures.value, c.as_slice.ensures.value) at c.in-Some.ensures.first) in
    rw (← c.self.view_is) ((after_take g.N.Named.board c.self.inside.slots.items _ c.self.inside.history.items c.self.inside.halted _ c.self.invariant c.in-Some.number c.args.worker _
    c.push-pushed.new.self.items _ n
    (λ l. c.push-pushed.ensures.succeeds (omega (arith, l, c.self.inside.history.ok))) c.push-pushed.ensures.items c.push-pushed.ensures.capacity).0)

pub returns-in-Some-clause-held : goal.returns-in-Some-clause-held
returns-in-Some-clause-held g c =
    let n = next_row g.N.Named.board c.self.inside.slots.items _ c.self.inside.history.items c.self.inside.halted _ c.self.invariant c.if-self.false c.in-Some.number
    (rw (c.as_slice-2.ensures.value, c.as_slice.ensures.value) at c.in-Some.ensures.ready)
    (rw (c.as_slice-2.ensures.value, c.as_slice.ensures.value) at c.in-Some.ensures.first) in
    subst (λ (es : List PoolEvent). IsHeldBy g.N.Named.board es c.args.worker c.in-Some.number)
    (sym ((after_take g.N.Named.board c.self.inside.slots.items _ c.self.inside.history.items c.self.inside.halted _ c.self.invariant c.in-Some.number c.args.worker _
    c.push-pushed.new.self.items _ n
    (λ l. c.push-pushed.ensures.succeeds (omega (arith, l, c.self.inside.history.ok))) c.push-pushed.ensures.items c.push-pushed.ensures.capacity).0))
    (taken_holds g.N.Named.board c.self.inside.history.items c.args.worker c.in-Some.number n)

pub returns-in-Some-clause-in_range : goal.returns-in-Some-clause-in_range
returns-in-Some-clause-in_range g c =
    let n = next_row g.N.Named.board c.self.inside.slots.items _ c.self.inside.history.items c.self.inside.halted _ c.self.invariant c.if-self.false c.in-Some.number
    (rw (c.as_slice-2.ensures.value, c.as_slice.ensures.value) at c.in-Some.ensures.ready)
    (rw (c.as_slice-2.ensures.value, c.as_slice.ensures.value) at c.in-Some.ensures.first) in
    waiting_in g.N.Named.board c.self.inside.history.items c.in-Some.number n.ready.waiting

pub returns-in-None-clause-closed : goal.returns-in-None-clause-closed
returns-in-None-clause-closed g c =
    inr (subst (NoneReady g.N.Named.board) c.self.view_is
    (none_row g.N.Named.board c.self.inside.slots.items _ c.self.inside.history.items c.self.inside.halted _ c.self.invariant
    (rw (c.as_slice-2.ensures.value, c.as_slice.ensures.value) at c.in-None.ensures.none)))

pub returns-then-self-clause-closed : goal.returns-then-self-clause-closed
returns-then-self-clause-closed g c =
    inl (subst IsHalted c.self.view_is
    (on_halt g.N.Named.board c.self.inside.slots.items _ c.self.inside.history.items c.self.inside.halted _ c.self.invariant c.if-self.true))
