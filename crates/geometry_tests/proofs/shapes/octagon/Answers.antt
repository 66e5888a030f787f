use Rattle.geometry_tests.proofs.shapes.octagon.Goals as goal

pub returns-then-has_inside : goal.returns-then-has_inside
returns-then-has_inside c = c.has_inside.ensures.0 c.if-has_inside.true
