use Rattle.fills.specs.Fills.{task_of}
use Rattle.fill_pool.proofs.Tables.{no_places, place_step}
use Rattle.fill_pool.proofs.table.places_on.Goals as goal

pub each-init : goal.each-init
each-init c = no_places _ _ _ c.new-places.ensures.items

pub each-preserved : goal.each-preserved
each-preserved c =
    place_step task_of c.args.tasks.now _ c.args.layer c.each.i c.each.places.items _ c.each-test.true c.in_ok-push_if.ensures c.each.invariant
