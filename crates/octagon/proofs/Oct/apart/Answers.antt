use Rattle.std.proofs.Common.{refl, arith}
use Rattle.std.proofs.lemmas.Int.{ints}
use Rattle.grid_num.proofs.Roots.{up2_le_double}
use Rattle.octagon.specs.contracts.Oct.{the_view}
use Rattle.octagon.proofs.Plain.{plain_need, up2_room, apart_law, small_read, IsOct-IsSmall}
use Rattle.octagon.proofs.Oct.apart.Goals as goal

pub overflow_cast-slanted : goal.overflow_cast-slanted
overflow_cast-slanted c = omega (arith, ints, up2_le_double c.args.need)

pub closer-d-requires-clause-low : goal.closer-d-requires-clause-low
closer-d-requires-clause-low c =
    small_read c.self.inside.d0 c.other.inside.d0 (IsOct-IsSmall (the_view c.self.inside) c.self.invariant).d0 (IsOct-IsSmall (the_view c.other.inside) c.other.invariant).d0

pub closer-d-requires-clause-high : goal.closer-d-requires-clause-high
closer-d-requires-clause-high c =
    small_read c.self.inside.d1 c.other.inside.d1 (IsOct-IsSmall (the_view c.self.inside) c.self.invariant).d1 (IsOct-IsSmall (the_view c.other.inside) c.other.invariant).d1

pub returns : goal.returns
returns c =
    rw (← c.self.view_is, ← c.other.view_is)
    (apart_law c.args.need (the_view c.self.inside) (the_view c.other.inside) _ _ c.closer-x.result c.closer-y.result c.closer-s.result c.closer-d.result c.all.result
    c.requires.some c.self.invariant c.other.invariant (plain_need _ _ refl (omega arith)) (plain_need _ _ c.up2-slanted.ensures (up2_room c.args.need c.requires.room)) c.closer-x.ensures c.closer-y.ensures c.closer-s.ensures c.closer-d.ensures c.all.ensures)
