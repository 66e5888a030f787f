use Rattle.std.proofs.Common.{refl}
use Rattle.std.proofs.lemmas.Bool.{iff_false}
use Rattle.cores.specs.Room.{spot}
use Rattle.cores.proofs.AreaTests.{start_found, right_found, left_last}
use Rattle.cores.proofs.sides.is_area_close.Goals as goal

pub returns-then-holds : goal.returns-then-holds
returns-then-holds c = (λ z. start_found c.args.a c.args.b.now (spot c.args.s) (spot c.args.t) (c.holds.ensures.0 c.if-holds.true), λ z. refl)

pub returns-then-is_right_close : goal.returns-then-is_right_close
returns-then-is_right_close c = (λ z. right_found c.args.a c.args.b.now (spot c.args.s) (spot c.args.t) (c.is_right_close.ensures.0 c.if-is_right_close.true), λ z. refl)

pub returns : goal.returns
returns c =
    left_last c.is_left_close.result c.args.a c.args.b.now (spot c.args.s) (spot c.args.t)
    (iff_false c.holds.ensures c.if-holds.false) (iff_false c.is_right_close.ensures c.if-is_right_close.false) c.is_left_close.ensures
