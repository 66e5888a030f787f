use Rattle.std.proofs.Common.{sym, subst, ℕ, List}
use Rattle.std.specs.Prelude.{Some}
use Rattle.std.specs.Arc.{arc_value}
use Rattle.std.proofs.lemmas.List.{map-set}
use Rattle.pool_rules.specs.declared.PoolEvent.{PoolEvent}
use Rattle.fills.specs.Fills.{IsFillOf}
use Rattle.fill_pool.specs.Runs.{IsHeldBy}
use Rattle.fill_pool.specs.Inner.Slots.{filled}
use Rattle.fill_pool.proofs.Pools.{after_finish}
use Rattle.fill_pool.proofs.pool.Pool.finish.Goals as goal

pub invariant_of-self : goal.invariant_of-self
invariant_of-self g c =
    let b = g.N.Named.board in
    let held : IsHeldBy b c.self.inside.machine c.worker.result c.number-number.result = c.finish.ensures.held.0 c.if-finish.true in
    let is : IsFillOf b c.number-number.result (arc_value c.args.fill) =
    subst (λ (n : ℕ). IsFillOf b n (arc_value c.args.fill)) (sym c.number-number.ensures.value)
    (c.requires (subst (λ (es : List PoolEvent). IsHeldBy b es c.args.ticket.worker c.args.ticket.number) c.self.view_is
    (subst (λ (n : ℕ). IsHeldBy b c.self.inside.machine c.args.ticket.worker n) c.number-number.ensures.value
    (subst (λ (v : ℕ). IsHeldBy b c.self.inside.machine v c.number-number.result) c.worker.ensures held)))) in
    after_finish b c.self.inside.machine _ _ _ _ c.self.invariant c.worker.result c.number-number.result (arc_value c.args.fill) c.finish.new.self _ held is
    (c.finish.ensures.entered c.if-finish.true) (map-set filled c.self.inside.fills.items c.number-number.result (Some c.args.fill))

pub invariant_of-self-then-finish-2 : goal.invariant_of-self-then-finish-2
invariant_of-self-then-finish-2 g c =
    let b = g.N.Named.board in
    let held : IsHeldBy b c.self.inside.machine c.worker.result c.number-number.result = c.finish.ensures.held.0 c.if-finish.true in
    let is : IsFillOf b c.number-number.result (arc_value c.args.fill) =
    subst (λ (n : ℕ). IsFillOf b n (arc_value c.args.fill)) (sym c.number-number.ensures.value)
    (c.requires (subst (λ (es : List PoolEvent). IsHeldBy b es c.args.ticket.worker c.args.ticket.number) c.self.view_is
    (subst (λ (n : ℕ). IsHeldBy b c.self.inside.machine c.args.ticket.worker n) c.number-number.ensures.value
    (subst (λ (v : ℕ). IsHeldBy b c.self.inside.machine v c.number-number.result) c.worker.ensures held)))) in
    after_finish b c.self.inside.machine _ _ _ _ c.self.invariant c.worker.result c.number-number.result (arc_value c.args.fill) c.finish.new.self _ held is
    (c.finish.ensures.entered c.if-finish.true) (map-set filled c.self.inside.fills.items c.number-number.result (Some c.args.fill))
