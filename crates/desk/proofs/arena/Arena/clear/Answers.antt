use Rattle.std.proofs.Common.{◌≡◌, ◌≤◌, [], sym, subst, arith, None, vec_len, vec_capacity}
use Rattle.std.specs.FinMap.{get, insert}
use Rattle.desk.specs.Folder.{IsFirst, IsNowhere}
use Rattle.desk.specs.Room.{cost_in}
use Rattle.desk.specs.Arena.{Reserved, entries_of, stored}
use Rattle.desk.proofs.Entries.{got_first, got_none, replaced, added}
use Rattle.desk.proofs.Reserve.{first_moved, nowhere_moved, cost_some, cost_none, place_free, reserved_found, reserved_new, state_is}
use Rattle.desk.proofs.arena.Arena.clear.Goals as goal

pub invariant_of-self : goal.invariant_of-self
invariant_of-self c =
    let first : IsFirst c.args.name.now (entries_of c.self.inside.table.items c.self.inside.bytes.items) c.in-Some.spot.index = first_moved _ c.self.inside.table.items _ c.self.inside.bytes.items c.args.name.now c.in-Some.spot.index c.deref.ensures.value c.deref-2.ensures.value c.in-Some.ensures.found in
    let some = got_first (entries_of c.self.inside.table.items c.self.inside.bytes.items) c.in-Some.spot.index c.args.name.now first in (
      c.refill.ensures.table,
      reserved_found (stored c.self.inside.table.items c.self.inside.bytes.items) _ c.args.name.now _ [] (vec_len c.self.inside.table) (vec_capacity c.self.inside.table) (vec_len c.self.inside.bytes) (vec_capacity c.self.inside.bytes) c.self.inside.room _ _ _ _ _ some c.self.invariant.1
          (replaced (entries_of c.self.inside.table.items c.self.inside.bytes.items) _ c.in-Some.spot.index c.args.name.now [] first c.refill.ensures.entries)
          (omega arith) c.refill.ensures.names c.refill.ensures.names_capacity (omega (arith, c.refill.ensures.len, c.refill.ensures.capacity, c.self.invariant.1.bytes_fit)),
    )

pub add-requires-clause-names_fit : goal.add-requires-clause-names_fit
add-requires-clause-names_fit c =
    let nowhere : IsNowhere c.args.name.now (entries_of c.self.inside.table.items c.self.inside.bytes.items) = nowhere_moved _ c.self.inside.table.items _ c.self.inside.bytes.items c.args.name.now c.deref.ensures.value c.deref-2.ensures.value c.in-None.ensures.none in
    let none : get (stored c.self.inside.table.items c.self.inside.bytes.items) c.args.name.now ≡ None = got_none (entries_of c.self.inside.table.items c.self.inside.bytes.items) c.args.name.now nowhere in
    let cost = cost_none (stored c.self.inside.table.items c.self.inside.bytes.items) c.args.name.now none in
    let asked : cost_in (stored c.self.inside.table.items c.self.inside.bytes.items) c.args.name.now ≤ c.self.inside.room = subst (λ (s : Reserved). cost_in s.files c.args.name.now ≤ s.room) (sym c.self.view_is) c.requires in
    place_free (stored c.self.inside.table.items c.self.inside.bytes.items) c.args.name.now (vec_len c.self.inside.table) (vec_capacity c.self.inside.table) (vec_len c.self.inside.bytes) (vec_capacity c.self.inside.bytes) c.self.inside.room none c.self.invariant.1 (omega arith)

pub add-requires-clause-fits : goal.add-requires-clause-fits
add-requires-clause-fits c =
    let nowhere : IsNowhere c.args.name.now (entries_of c.self.inside.table.items c.self.inside.bytes.items) = nowhere_moved _ c.self.inside.table.items _ c.self.inside.bytes.items c.args.name.now c.deref.ensures.value c.deref-2.ensures.value c.in-None.ensures.none in
    let none : get (stored c.self.inside.table.items c.self.inside.bytes.items) c.args.name.now ≡ None = got_none (entries_of c.self.inside.table.items c.self.inside.bytes.items) c.args.name.now nowhere in
    let cost = cost_none (stored c.self.inside.table.items c.self.inside.bytes.items) c.args.name.now none in
    let asked : cost_in (stored c.self.inside.table.items c.self.inside.bytes.items) c.args.name.now ≤ c.self.inside.room = subst (λ (s : Reserved). cost_in s.files c.args.name.now ≤ s.room) (sym c.self.view_is) c.requires in
    omega (arith, c.self.invariant.1.bytes_fit)

pub overflow_sub-self : goal.overflow_sub-self
overflow_sub-self c =
    let nowhere : IsNowhere c.args.name.now (entries_of c.self.inside.table.items c.self.inside.bytes.items) = nowhere_moved _ c.self.inside.table.items _ c.self.inside.bytes.items c.args.name.now c.deref.ensures.value c.deref-2.ensures.value c.in-None.ensures.none in
    let none : get (stored c.self.inside.table.items c.self.inside.bytes.items) c.args.name.now ≡ None = got_none (entries_of c.self.inside.table.items c.self.inside.bytes.items) c.args.name.now nowhere in
    let cost = cost_none (stored c.self.inside.table.items c.self.inside.bytes.items) c.args.name.now none in
    let asked : cost_in (stored c.self.inside.table.items c.self.inside.bytes.items) c.args.name.now ≤ c.self.inside.room = subst (λ (s : Reserved). cost_in s.files c.args.name.now ≤ s.room) (sym c.self.view_is) c.requires in
    omega arith

pub invariant_of-self-in-None : goal.invariant_of-self-in-None
invariant_of-self-in-None c =
    let nowhere : IsNowhere c.args.name.now (entries_of c.self.inside.table.items c.self.inside.bytes.items) = nowhere_moved _ c.self.inside.table.items _ c.self.inside.bytes.items c.args.name.now c.deref.ensures.value c.deref-2.ensures.value c.in-None.ensures.none in
    let none : get (stored c.self.inside.table.items c.self.inside.bytes.items) c.args.name.now ≡ None = got_none (entries_of c.self.inside.table.items c.self.inside.bytes.items) c.args.name.now nowhere in
    let cost = cost_none (stored c.self.inside.table.items c.self.inside.bytes.items) c.args.name.now none in
    let asked : cost_in (stored c.self.inside.table.items c.self.inside.bytes.items) c.args.name.now ≤ c.self.inside.room = subst (λ (s : Reserved). cost_in s.files c.args.name.now ≤ s.room) (sym c.self.view_is) c.requires in (
      c.add.ensures.table,
      reserved_new (stored c.self.inside.table.items c.self.inside.bytes.items) _ c.args.name.now [] (vec_len c.self.inside.table) (vec_capacity c.self.inside.table) (vec_len c.self.inside.bytes) (vec_capacity c.self.inside.bytes) c.self.inside.room _ _ _ _ _ none c.self.invariant.1
          (added (entries_of c.self.inside.table.items c.self.inside.bytes.items) _ c.args.name.now [] nowhere c.add.ensures.entries)
          (omega arith) c.add.ensures.names c.add.ensures.names_capacity (omega (arith, c.add.ensures.len, c.add.ensures.capacity, c.self.invariant.1.bytes_fit)),
    )

pub returns-in-Some : goal.returns-in-Some
returns-in-Some c =
    let first : IsFirst c.args.name.now (entries_of c.self.inside.table.items c.self.inside.bytes.items) c.in-Some.spot.index = first_moved _ c.self.inside.table.items _ c.self.inside.bytes.items c.args.name.now c.in-Some.spot.index c.deref.ensures.value c.deref-2.ensures.value c.in-Some.ensures.found in
    let some = got_first (entries_of c.self.inside.table.items c.self.inside.bytes.items) c.in-Some.spot.index c.args.name.now first in
    let cost = cost_some (stored c.self.inside.table.items c.self.inside.bytes.items) c.args.name.now _ some in
    state_is c.args.self.now (stored c.self.inside.table.items c.self.inside.bytes.items) _ c.self.inside.room _ (λ m. insert m c.args.name.now []) (λ m. cost_in m c.args.name.now) c.self.view_is
    (replaced (entries_of c.self.inside.table.items c.self.inside.bytes.items) _ c.in-Some.spot.index c.args.name.now [] first c.refill.ensures.entries) (omega arith)

pub returns-in-None : goal.returns-in-None
returns-in-None c =
    let nowhere : IsNowhere c.args.name.now (entries_of c.self.inside.table.items c.self.inside.bytes.items) = nowhere_moved _ c.self.inside.table.items _ c.self.inside.bytes.items c.args.name.now c.deref.ensures.value c.deref-2.ensures.value c.in-None.ensures.none in
    let none : get (stored c.self.inside.table.items c.self.inside.bytes.items) c.args.name.now ≡ None = got_none (entries_of c.self.inside.table.items c.self.inside.bytes.items) c.args.name.now nowhere in
    let cost = cost_none (stored c.self.inside.table.items c.self.inside.bytes.items) c.args.name.now none in
    state_is c.args.self.now (stored c.self.inside.table.items c.self.inside.bytes.items) _ c.self.inside.room _ (λ m. insert m c.args.name.now []) (λ m. cost_in m c.args.name.now) c.self.view_is
    (added (entries_of c.self.inside.table.items c.self.inside.bytes.items) _ c.args.name.now [] nowhere c.add.ensures.entries) (omega arith)
