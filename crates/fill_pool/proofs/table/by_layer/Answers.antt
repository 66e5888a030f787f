use Rattle.std.proofs.Common.{refl, length, map}
use Rattle.std.proofs.lemmas.List.{length-map}
use Rattle.fills.specs.Fills.{task_of}
use Rattle.fill_pool.specs.Inner.Tables.{ArePlacesOn}
use Rattle.fill_pool.proofs.Tables.{list_more, all_places}
use Rattle.fill_pool.proofs.table.by_layer.Goals as goal

pub each-preserved : goal.each-preserved
each-preserved c =
    let tasks = map task_of c.args.tasks.now in
    list_more (λ layer places. ArePlacesOn tasks layer (length tasks) places) c.each.layer (λ list. list.items) c.each.lists.items _ c.in_ok-places_on.field-0 c.in_ok-push.ensures.items
    (all_places task_of c.args.tasks.now c.each.layer _ _ _ refl (length-map c.args.tasks.now task_of) c.in_ok-places_on.ensures) c.each.invariant
