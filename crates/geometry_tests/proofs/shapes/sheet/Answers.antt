use Rattle.geometry_tests.proofs.shapes.sheet.Goals as goal

pub of-requires : goal.of-requires
of-requires c = rw c.deref.ensures.value c.in_ok-octs.ensures
