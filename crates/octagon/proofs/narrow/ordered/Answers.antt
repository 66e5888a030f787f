use Rattle.octagon.specs.contracts.eight.Eight.{the_view}
use Rattle.octagon.proofs.Steps.{ordered_of}
use Rattle.octagon.proofs.narrow.ordered.Goals as goal

pub returns : goal.returns
returns c = rw (← c.b.view_is) (ordered_of (the_view c.b.inside) c.all.result (rw (← c.b.view_is) at c.requires) c.all.ensures)
