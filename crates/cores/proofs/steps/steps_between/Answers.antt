use Rattle.std.proofs.Common.{arith}
use Rattle.touching.specs.Inner.Decision.{steps_of}
use Rattle.plane.proofs.Equal.{equal}
use Rattle.cores.specs.contracts.area.AreaBounds.{the_view}
use Rattle.cores.proofs.CornerPlaces.{small}
use Rattle.cores.proofs.Plain.{near_read, beyond_read}
use Rattle.cores.proofs.steps.steps_between.Goals as goal

pub beyond-requires-clause-a : goal.beyond-requires-clause-a
beyond-requires-clause-a c =
    near_read 2400000000 2400000000 _ (omega arith) (omega arith)
    (small (the_view c.b.inside) (rw (← c.b.view_is) at c.requires.first_tight) (rw (← c.b.view_is) at c.requires.first_room)).x0

pub beyond-requires-clause-b : goal.beyond-requires-clause-b
beyond-requires-clause-b c =
    near_read 2400000000 2400000000 _ (omega arith) (omega arith)
    (small (the_view c.c.inside) (rw (← c.c.view_is) at c.requires.second_tight) (rw (← c.c.view_is) at c.requires.second_room)).x1

pub beyond-requires-2-clause-a : goal.beyond-requires-2-clause-a
beyond-requires-2-clause-a c =
    near_read 2400000000 2400000000 _ (omega arith) (omega arith)
    (small (the_view c.b.inside) (rw (← c.b.view_is) at c.requires.first_tight) (rw (← c.b.view_is) at c.requires.first_room)).x1

pub beyond-requires-2-clause-b : goal.beyond-requires-2-clause-b
beyond-requires-2-clause-b c =
    near_read 2400000000 2400000000 _ (omega arith) (omega arith)
    (small (the_view c.c.inside) (rw (← c.c.view_is) at c.requires.second_tight) (rw (← c.c.view_is) at c.requires.second_room)).x0

pub beyond-requires-3-clause-a : goal.beyond-requires-3-clause-a
beyond-requires-3-clause-a c =
    near_read 2400000000 2400000000 _ (omega arith) (omega arith)
    (small (the_view c.b.inside) (rw (← c.b.view_is) at c.requires.first_tight) (rw (← c.b.view_is) at c.requires.first_room)).y0

pub beyond-requires-3-clause-b : goal.beyond-requires-3-clause-b
beyond-requires-3-clause-b c =
    near_read 2400000000 2400000000 _ (omega arith) (omega arith)
    (small (the_view c.c.inside) (rw (← c.c.view_is) at c.requires.second_tight) (rw (← c.c.view_is) at c.requires.second_room)).y1

pub beyond-requires-4-clause-a : goal.beyond-requires-4-clause-a
beyond-requires-4-clause-a c =
    near_read 2400000000 2400000000 _ (omega arith) (omega arith)
    (small (the_view c.b.inside) (rw (← c.b.view_is) at c.requires.first_tight) (rw (← c.b.view_is) at c.requires.first_room)).y1

pub beyond-requires-4-clause-b : goal.beyond-requires-4-clause-b
beyond-requires-4-clause-b c =
    near_read 2400000000 2400000000 _ (omega arith) (omega arith)
    (small (the_view c.c.inside) (rw (← c.c.view_is) at c.requires.second_tight) (rw (← c.c.view_is) at c.requires.second_room)).y0

pub beyond-requires-5-clause-a : goal.beyond-requires-5-clause-a
beyond-requires-5-clause-a c =
    near_read 2400000000 2400000000 _ (omega arith) (omega arith)
    (small (the_view c.b.inside) (rw (← c.b.view_is) at c.requires.first_tight) (rw (← c.b.view_is) at c.requires.first_room)).s0

pub beyond-requires-5-clause-b : goal.beyond-requires-5-clause-b
beyond-requires-5-clause-b c =
    near_read 2400000000 2400000000 _ (omega arith) (omega arith)
    (small (the_view c.c.inside) (rw (← c.c.view_is) at c.requires.second_tight) (rw (← c.c.view_is) at c.requires.second_room)).s1

pub beyond-requires-6-clause-a : goal.beyond-requires-6-clause-a
beyond-requires-6-clause-a c =
    near_read 2400000000 2400000000 _ (omega arith) (omega arith)
    (small (the_view c.b.inside) (rw (← c.b.view_is) at c.requires.first_tight) (rw (← c.b.view_is) at c.requires.first_room)).s1

pub beyond-requires-6-clause-b : goal.beyond-requires-6-clause-b
beyond-requires-6-clause-b c =
    near_read 2400000000 2400000000 _ (omega arith) (omega arith)
    (small (the_view c.c.inside) (rw (← c.c.view_is) at c.requires.second_tight) (rw (← c.c.view_is) at c.requires.second_room)).s0

pub beyond-requires-7-clause-a : goal.beyond-requires-7-clause-a
beyond-requires-7-clause-a c =
    near_read 2400000000 2400000000 _ (omega arith) (omega arith)
    (small (the_view c.b.inside) (rw (← c.b.view_is) at c.requires.first_tight) (rw (← c.b.view_is) at c.requires.first_room)).d0

pub beyond-requires-7-clause-b : goal.beyond-requires-7-clause-b
beyond-requires-7-clause-b c =
    near_read 2400000000 2400000000 _ (omega arith) (omega arith)
    (small (the_view c.c.inside) (rw (← c.c.view_is) at c.requires.second_tight) (rw (← c.c.view_is) at c.requires.second_room)).d1

pub beyond-requires-8-clause-a : goal.beyond-requires-8-clause-a
beyond-requires-8-clause-a c =
    near_read 2400000000 2400000000 _ (omega arith) (omega arith)
    (small (the_view c.b.inside) (rw (← c.b.view_is) at c.requires.first_tight) (rw (← c.b.view_is) at c.requires.first_room)).d1

pub beyond-requires-8-clause-b : goal.beyond-requires-8-clause-b
beyond-requires-8-clause-b c =
    near_read 2400000000 2400000000 _ (omega arith) (omega arith)
    (small (the_view c.c.inside) (rw (← c.c.view_is) at c.requires.second_tight) (rw (← c.c.view_is) at c.requires.second_room)).d0

pub returns-clause-value : goal.returns-clause-value
unfolding steps_of
returns-clause-value c =
    let n = small (the_view c.b.inside) (rw (← c.b.view_is) at c.requires.first_tight) (rw (← c.b.view_is) at c.requires.first_room) in
    let m = small (the_view c.c.inside) (rw (← c.c.view_is) at c.requires.second_tight) (rw (← c.c.view_is) at c.requires.second_room) in
    rw (← c.b.view_is, ← c.c.view_is) (equal _ _ (record {
      x0 = beyond_read _ _ _ n.x0 m.x1 c.beyond.ensures.value;
      x1 = beyond_read _ _ _ n.x1 m.x0 c.beyond-2.ensures.value;
      y0 = beyond_read _ _ _ n.y0 m.y1 c.beyond-3.ensures.value;
      y1 = beyond_read _ _ _ n.y1 m.y0 c.beyond-4.ensures.value;
      s0 = beyond_read _ _ _ n.s0 m.s1 c.beyond-5.ensures.value;
      s1 = beyond_read _ _ _ n.s1 m.s0 c.beyond-6.ensures.value;
      d0 = beyond_read _ _ _ n.d0 m.d1 c.beyond-7.ensures.value;
      d1 = beyond_read _ _ _ n.d1 m.d0 c.beyond-8.ensures.value;
    }))
