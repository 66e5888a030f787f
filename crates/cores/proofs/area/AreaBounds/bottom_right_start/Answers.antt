use Rattle.cores.specs.contracts.area.AreaBounds.{the_view}
use Rattle.cores.proofs.CornerPlaces.{small, place_is, bottom_right_room}
use Rattle.cores.proofs.Plain.{same64, plain_sub}
use Rattle.touching.specs.Inner.Decision.{start_of}
use Rattle.cores.proofs.area.AreaBounds.bottom_right_start.Goals as goal

pub returns-clause-value : goal.returns-clause-value
unfolding start_of
returns-clause-value c =
    let n = small (the_view c.self.inside) (rw (← c.self.view_is) at c.requires.tight) (rw (← c.self.view_is) at c.requires.room) in
    rw (← c.self.view_is) (place_is _ _ _ _ (same64 _ n.x1) (plain_sub _ _ n.s1 n.x1))

pub returns-clause-room : goal.returns-clause-room
returns-clause-room c = bottom_right_room (the_view c.self.inside) (rw (← c.self.view_is) at c.requires.tight) (rw (← c.self.view_is) at c.requires.room)
