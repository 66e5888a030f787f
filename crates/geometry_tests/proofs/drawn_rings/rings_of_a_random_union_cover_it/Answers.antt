use Rattle.geometry_tests.proofs.drawn_rings.rings_of_a_random_union_cover_it.Goals as goal

pub of-requires : goal.of-requires
of-requires g c = rw c.deref-2.ensures.value c.in_ok-octs.ensures
