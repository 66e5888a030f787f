use Rattle.cores.specs.contracts.area.AreaBounds.{the_view}
use Rattle.cores.proofs.CornerPlaces.{small}
use Rattle.cores.proofs.AreaTests.{holds_law}
use Rattle.cores.proofs.area.AreaBounds.holds.Goals as goal

pub returns : goal.returns
returns c =
    let n = small (the_view c.self.inside) (rw (← c.self.view_is) at c.requires.tight) (rw (← c.self.view_is) at c.requires.room) in
    rw (← c.self.view_is)
    (holds_law (the_view c.self.inside) c.args.p.x c.args.p.y c.is_between-x.result c.is_between-y.result c.is_between-s.result c.is_between-d.result c.all.result
    n c.requires.place.x c.requires.place.y c.is_between-x.ensures c.is_between-y.ensures c.is_between-s.ensures c.is_between-d.ensures c.all.ensures)
