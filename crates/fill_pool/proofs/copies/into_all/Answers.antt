use Rattle.std.proofs.Common.{◌≡◌, refl, ◌++◌, ◌∷◌, [], arith}
use Rattle.std.specs.Arc.{arc_value}
use Rattle.fill_pool.specs.Inner.Slots.{filled}
use Rattle.fill_pool.proofs.Machines.{pushed}
use Rattle.fill_pool.proofs.Pools.{same_step, full_step, room_step, room_left}
use Rattle.fill_pool.proofs.copies.into_all.Goals as goal

pub each-preserved : goal.each-preserved
each-preserved c =
    let left = c.in-Some.ensures.steps.0 in
    let l = room_left c.each.all.items _ _ _ _ c.each.invariant.room left in
    let new : c.push-pushed.new.self.items ≡ c.each.all.items ++ c.in-Some-fill.fill ∷ [] =
    pushed _ _ _ _ (c.push-pushed.ensures.succeeds (omega (arith, l, c.each.all.ok))) c.push-pushed.ensures.items in
    record {
      same = same_step arc_value filled _ _ _ c.in-Some-fill.fill _ _ _ c.each.invariant.same left c.in-Some-fill.is refl new;
      full = full_step filled _ _ _ c.each.invariant.full left;
      room = room_step c.each.all.items _ c.in-Some-fill.fill _ _ _ _ _ c.each.invariant.room left new c.push-pushed.ensures.capacity;
    }
