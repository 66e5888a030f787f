use Rattle.std.proofs.Common.{◌∙◌, sym, ap, [], Some, slice_index_or}
use Rattle.std.specs.FinMap.{get}
use Rattle.desk.specs.Arena.{Reserved, entries_of}
use Rattle.desk.proofs.Entries.{got_first, got_none}
use Rattle.desk.proofs.Reserve.{first_moved, nowhere_moved}
use Rattle.desk.proofs.arena.Arena.get.Goals as goal

pub returns-in-Some : goal.returns-in-Some
returns-in-Some c =
    ap Some c.contents_at.ensures
    ∙ ap (λ t. Some (slice_index_or (entries_of t c.deref-in-Some-2.result.now) c.in-Some.spot.index ([], [])).1) c.deref-in-Some.ensures.value
    ∙ ap (λ b. Some (slice_index_or (entries_of c.self.inside.table.items b) c.in-Some.spot.index ([], [])).1) c.deref-in-Some-2.ensures.value
    ∙ sym (got_first (entries_of c.self.inside.table.items c.self.inside.bytes.items) c.in-Some.spot.index c.args.name.now
    (first_moved _ c.self.inside.table.items _ c.self.inside.bytes.items c.args.name.now c.in-Some.spot.index c.deref.ensures.value c.deref-2.ensures.value c.in-Some.ensures.found))
    ∙ ap (λ (r : Reserved). get r.files c.args.name.now) c.self.view_is

pub returns-in-None : goal.returns-in-None
returns-in-None c =
    sym (got_none (entries_of c.self.inside.table.items c.self.inside.bytes.items) c.args.name.now
    (nowhere_moved _ c.self.inside.table.items _ c.self.inside.bytes.items c.args.name.now c.deref.ensures.value c.deref-2.ensures.value c.in-None.ensures.none))
    ∙ ap (λ (r : Reserved). get r.files c.args.name.now) c.self.view_is
