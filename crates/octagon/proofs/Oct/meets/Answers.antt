use Rattle.octagon.specs.contracts.Oct.{the_view}
use Rattle.octagon.proofs.Plain.{meets_law}
use Rattle.octagon.proofs.Oct.meets.Goals as goal

pub returns : goal.returns
returns c =
    rw (← c.self.view_is, ← c.other.view_is)
    (meets_law (the_view c.self.inside) (the_view c.other.inside) c.overlap-x.result c.overlap-y.result c.overlap-s.result c.overlap-d.result c.all.result
    c.self.invariant c.other.invariant c.overlap-x.ensures c.overlap-y.ensures c.overlap-s.ensures c.overlap-d.ensures c.all.ensures)
