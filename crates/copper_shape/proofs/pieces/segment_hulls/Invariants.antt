use Rattle.std.proofs.Common.{◌≡◌, ◌++◌, ◌-◌}
use Rattle.hulls.specs.Hulls.{piece_hulls}
use Rattle.cores.specs.Room.{spot}
use Rattle.copper_shape.proofs.pieces.segment_hulls.Given as goal

abbrev pub invariant-each : goal.invariant-each
invariant-each l =
    l.hulls.items ++ piece_hulls (spot l.from) (spot l.to) l.count l.radius l.i (l.count - l.i)
    ≡ piece_hulls (spot l.from) (spot l.to) l.count l.radius 0 l.count
