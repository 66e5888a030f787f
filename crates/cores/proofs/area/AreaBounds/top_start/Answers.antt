use Rattle.cores.specs.contracts.area.AreaBounds.{the_view}
use Rattle.cores.proofs.CornerPlaces.{small, place_is, top_room}
use Rattle.cores.proofs.Plain.{same64, plain_sub}
use Rattle.touching.specs.Inner.Decision.{start_of}
use Rattle.cores.proofs.area.AreaBounds.top_start.Goals as goal

pub returns-clause-value : goal.returns-clause-value
unfolding start_of
returns-clause-value c =
    let n = small (the_view c.self.inside) (rw (← c.self.view_is) at c.requires.tight) (rw (← c.self.view_is) at c.requires.room) in
    rw (← c.self.view_is) (place_is _ _ _ _ (plain_sub _ _ n.s0 n.y0) (same64 _ n.y0))

pub returns-clause-room : goal.returns-clause-room
returns-clause-room c = top_room (the_view c.self.inside) (rw (← c.self.view_is) at c.requires.tight) (rw (← c.self.view_is) at c.requires.room)
