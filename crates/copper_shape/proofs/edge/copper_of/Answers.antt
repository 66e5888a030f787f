use Rattle.std.proofs.Common.{refl, ap, ◌∙◌}
use Rattle.copper_shape.specs.Shapes.{Copper}
use Rattle.cores.specs.Room.{spot}
use Rattle.copper_shape.proofs.Chords.{arc_core, line_core, arc_radius, line_radius}
use Rattle.copper_shape.proofs.edge.copper_of.Goals as goal

pub returns-then-edge-clause-core : goal.returns-then-edge-clause-core
returns-then-edge-clause-core c =
    let e = c.args.edge.now in
    rw c.if-edge.true
    (arc_core e.from e.to c.middle.result.x c.middle.result.y c.disc.result.core c.middle.ensures.x c.middle.ensures.y (ap (λ (z : Copper). z.core) c.disc.ensures.value))

pub returns-then-edge-clause-radius : goal.returns-then-edge-clause-radius
returns-then-edge-clause-radius c =
    let e = c.args.edge.now in
    rw c.if-edge.true (ap (λ (z : Copper). z.radius) c.disc.ensures.value ∙ arc_radius e.from e.to c.chord.result c.chord.ensures.value)

pub returns-else-edge-clause-core : goal.returns-else-edge-clause-core
returns-else-edge-clause-core c =
    let e = c.args.edge.now in
    rw c.if-edge.false
    (line_core e.from e.to (spot c.doubled.result) (spot c.doubled-else-edge.result) c.capsule.result.core
    (ap spot c.doubled.ensures.value) (ap spot c.doubled-else-edge.ensures.value) (ap (λ (z : Copper). z.core) c.capsule.ensures.value))

pub returns-else-edge-clause-radius : goal.returns-else-edge-clause-radius
returns-else-edge-clause-radius c =
    let e = c.args.edge.now in
    rw c.if-edge.false (ap (λ (z : Copper). z.radius) c.capsule.ensures.value ∙ line_radius e.from e.to 0 refl)
