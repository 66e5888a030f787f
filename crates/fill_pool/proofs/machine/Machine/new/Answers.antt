use Rattle.std.proofs.Common.{◌≡◌, sym, ◌∙◌, subst, ◌≤◌, ◌<◌, ◌+◌, List, map, arith, length}
use Rattle.std.specs.Prelude.{false, vec_capacity, ◌^◌}
use Rattle.pool_rules.specs.declared.PoolEvent.{PoolEvent}
use Rattle.fill_pool.specs.Inner.Fields.{IsMachine}
use Rattle.fill_pool.proofs.Machines.{new_machine, length_map}
use Rattle.fill_pool.proofs.machine.Machine.new.Goals as goal

pub invariant_of-result : goal.invariant_of-result
invariant_of-result g c =
    let n = c.len-count.result in
    let k : n ≡ length c.args.table.items = c.len-count.ensures ∙ c.args.table.ok.0 in
    let e : n ≡ length (map (λ v. v.items) c.args.table.items) = k ∙ sym (length_map (λ v. v.items) c.args.table.items) in
    let few : n < 2 ^ 32 = subst (λ m. m < 2 ^ 32) (sym k) c.requires.few in
    let room : n + n ≤ vec_capacity c.in_ok-history.history = omega (arith, c.in_ok-history.ensures.exact) in
    subst (λ (es : List PoolEvent). IsMachine g.N.Named.board c.in_ok-slots.slots.items (map (λ v. v.items) c.args.table.items) es false (vec_capacity c.in_ok-history.history))
    (sym c.in_ok-history.ensures.items)
    (new_machine g.N.Named.board (map (λ v. v.items) c.args.table.items) c.requires.table n _ e few room c.in_ok-slots.slots.items (c.in_ok-slots.ensures.items_if_clones_equal (λ y q. q)))
