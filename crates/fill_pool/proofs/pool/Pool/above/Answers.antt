use Rattle.std.proofs.Common.{sym, ◌≡◌, subst, ℕ, List, map}
use Rattle.std.specs.Arc.{arc_value}
use Rattle.pool_rules.specs.declared.PoolEvent.{PoolEvent}
use Rattle.fill_pool.specs.Runs.{IsHeldBy}
use Rattle.fills.specs.Above.{AreFillsAbove}
use Rattle.fill_pool.specs.Inner.Slots.{filled, made_at}
use Rattle.fill_pool.proofs.Pools.{above_full, above_fills, copied_as}
use Rattle.fill_pool.proofs.pool.Pool.above.Goals as goal

pub copy_row-requires : goal.copy_row-requires
copy_row-requires g c =
    let b = g.N.Named.board in
    let held : IsHeldBy b c.self.inside.machine c.args.ticket.now.worker c.number.result =
    subst (λ (n : ℕ). IsHeldBy b c.self.inside.machine c.args.ticket.now.worker n) (sym c.number.ensures.value)
    (subst (λ (es : List PoolEvent). IsHeldBy b es c.args.ticket.now.worker c.args.ticket.now.number) (sym c.self.view_is) c.requires) in
    rw (c.deref.ensures.value)
    (above_full b c.self.inside.machine _ _ _ _ c.self.invariant c.reaching-row.ensures.lawful c.args.ticket.now.worker c.number.result held c.reaching-row.result.now c.reaching-row.ensures.value)

pub returns-in-Ok-clause-fills : goal.returns-in-Ok-clause-fills
returns-in-Ok-clause-fills g c =
    let b = g.N.Named.board in
    let held : IsHeldBy b c.self.inside.machine c.args.ticket.now.worker c.number.result =
    subst (λ (n : ℕ). IsHeldBy b c.self.inside.machine c.args.ticket.now.worker n) (sym c.number.ensures.value)
    (subst (λ (es : List PoolEvent). IsHeldBy b es c.args.ticket.now.worker c.args.ticket.now.number) (sym c.self.view_is) c.requires) in
    let out : map arc_value c.copy_row.new.into.items ≡ map (made_at (map filled c.self.inside.fills.items)) c.reaching-row.result.now =
    copied_as arc_value filled _ _ _ _ c.reaching-row.result.now c.in-Ok.ensures c.clear.ensures.items c.deref.ensures.value in
    subst (λ (n : ℕ). AreFillsAbove b n (map arc_value c.copy_row.new.into.items)) c.number.ensures.value
    (above_fills b c.self.inside.machine _ _ _ _ c.self.invariant c.reaching-row.ensures.lawful c.args.ticket.now.worker c.number.result held c.reaching-row.result.now c.reaching-row.ensures.value
    _ out)
