use Rattle.cores.specs.contracts.area.AreaBounds.{the_view}
use Rattle.cores.proofs.CornerPlaces.{small, place_is, bottom_left_room}
use Rattle.cores.proofs.Plain.{same64, plain_add, add_fits}
use Rattle.touching.specs.Inner.Decision.{start_of}
use Rattle.cores.proofs.area.AreaBounds.bottom_left_start.Goals as goal

pub returns-clause-value : goal.returns-clause-value
unfolding start_of
returns-clause-value c =
    let n = small (the_view c.self.inside) (rw (← c.self.view_is) at c.requires.tight) (rw (← c.self.view_is) at c.requires.room) in
    rw (← c.self.view_is) (place_is _ _ _ _ (plain_add _ _ n.d0 n.y1) (same64 _ n.y1))

pub returns-clause-room : goal.returns-clause-room
returns-clause-room c = bottom_left_room (the_view c.self.inside) (rw (← c.self.view_is) at c.requires.tight) (rw (← c.self.view_is) at c.requires.room)

pub overflow_add-result : goal.overflow_add-result
overflow_add-result c =
    let n = small (the_view c.self.inside) (rw (← c.self.view_is) at c.requires.tight) (rw (← c.self.view_is) at c.requires.room) in
    add_fits _ _ n.d0 n.y1
