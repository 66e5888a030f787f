use Rattle.plane.specs.Plane.{Within}
use Rattle.octagon.specs.Bounded.{bounds_of}
use Rattle.octagon.proofs.Steps.{none_iff, some_iff, some_oct, code_copy, copy_same, range_small}
use Rattle.octagon.proofs.Oct.of_bounds.Goals as goal

pub returns-clause-none : goal.returns-clause-none
returns-clause-none c =
    let b = bounds_of c.args.bounds in
    none_iff (code_copy b) (Within b) c.tightened.result (copy_same b (range_small b c.requires)) c.tightened.ensures.none c.tightened.ensures.some

pub returns-clause-points : goal.returns-clause-points
returns-clause-points c =
    let b = bounds_of c.args.bounds in
    some_iff (code_copy b) (Within b) c.tightened.result (copy_same b (range_small b c.requires)) c.tightened.ensures.some

pub returns-clause-oct : goal.returns-clause-oct
returns-clause-oct c = some_oct (code_copy (bounds_of c.args.bounds)) c.tightened.result c.tightened.ensures.some
