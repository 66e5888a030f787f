use Rattle.std.proofs.Common.{refl}
use Rattle.std.proofs.lemmas.Bool.{iff_false}
use Rattle.cores.specs.Room.{spot}
use Rattle.cores.proofs.LineTests.{cross_found, end_found, last_end}
use Rattle.cores.proofs.line.are_lines_close.Goals as goal

pub returns-then-are_crossing : goal.returns-then-are_crossing
returns-then-are_crossing c =
    (λ z. cross_found c.args.a (spot c.args.s) (spot c.args.t) (spot c.args.u) (spot c.args.v) (c.are_crossing.ensures.0 c.if-are_crossing.true), λ z. refl)

pub returns-then-is_end_close : goal.returns-then-is_end_close
returns-then-is_end_close c =
    (λ z. end_found c.args.a (spot c.args.s) (spot c.args.t) (spot c.args.u) (spot c.args.v) (c.is_end_close.ensures.0 c.if-is_end_close.true), λ z. refl)

pub returns : goal.returns
returns c =
    last_end c.is_end_close-2.result c.args.a (spot c.args.s) (spot c.args.t) (spot c.args.u) (spot c.args.v)
    (iff_false c.are_crossing.ensures c.if-are_crossing.false) (iff_false c.is_end_close.ensures c.if-is_end_close.false) c.is_end_close-2.ensures
