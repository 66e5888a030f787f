use Rattle.std.proofs.Common.{◌∙◌, ap}
use Rattle.std.specs.FinMap.{insert}
use Rattle.desk.specs.Folder.{IsFirst, IsNowhere}
use Rattle.desk.specs.Arena.{entries_of, stored}
use Rattle.desk.proofs.Entries.{replaced, added}
use Rattle.desk.proofs.Reserve.{first_moved, nowhere_moved, state_put}
use Rattle.desk.proofs.arena.Arena.put.Goals as goal

pub returns-in-Some-clause-ok : goal.returns-in-Some-clause-ok
returns-in-Some-clause-ok c =
    let first : IsFirst c.args.name.now (entries_of c.reserve-2.new.self.items c.reserve.new.self.items) c.in-Some.spot.index = first_moved _ c.reserve-2.new.self.items _ c.reserve.new.self.items c.args.name.now c.in-Some.spot.index c.deref.ensures.value c.deref-2.ensures.value c.in-Some.ensures.found in
    state_put c.args.self.now (stored c.self.inside.table.items c.self.inside.bytes.items) _ c.self.inside.room (λ m. insert m c.args.name.now c.args.bytes.now) c.self.view_is
    (replaced (entries_of c.reserve-2.new.self.items c.reserve.new.self.items) _ c.in-Some.spot.index c.args.name.now c.args.bytes.now first c.refill.ensures.entries
    ∙ ap (λ t. insert (stored t c.reserve.new.self.items) c.args.name.now c.args.bytes.now) c.reserve-2.ensures.items
    ∙ ap (λ b. insert (stored c.self.inside.table.items b) c.args.name.now c.args.bytes.now) c.reserve.ensures.items)

pub returns-in-None-clause-ok : goal.returns-in-None-clause-ok
returns-in-None-clause-ok c =
    let nowhere : IsNowhere c.args.name.now (entries_of c.reserve-2.new.self.items c.reserve.new.self.items) = nowhere_moved _ c.reserve-2.new.self.items _ c.reserve.new.self.items c.args.name.now c.deref.ensures.value c.deref-2.ensures.value c.in-None.ensures.none in
    state_put c.args.self.now (stored c.self.inside.table.items c.self.inside.bytes.items) _ c.self.inside.room (λ m. insert m c.args.name.now c.args.bytes.now) c.self.view_is
    (added (entries_of c.reserve-2.new.self.items c.reserve.new.self.items) _ c.args.name.now c.args.bytes.now nowhere c.add.ensures.entries
    ∙ ap (λ t. insert (stored t c.reserve.new.self.items) c.args.name.now c.args.bytes.now) c.reserve-2.ensures.items
    ∙ ap (λ b. insert (stored c.self.inside.table.items b) c.args.name.now c.args.bytes.now) c.reserve.ensures.items)
