use Rattle.std.proofs.Common.{arith, refl}
use Rattle.std.proofs.lemmas.Int.{ints}
use Rattle.cores.specs.Room.{spot}
use Rattle.copper_shape.proofs.Cuts.{code_cut}
use Rattle.copper_shape.proofs.pieces.cut_at.Goals as goal

pub returns : goal.returns
returns c =
    let r = code_cut (spot c.args.from) (spot c.args.to) c.args.count c.args.i _ c.mean.result c.mean-2.result _ _ _ _ c.requires.count c.requires.i refl
    (omega (arith, ints, c.requires.from.x)) (omega (arith, ints, c.requires.from.y)) (omega (arith, ints, c.requires.to.x)) (omega (arith, ints, c.requires.to.y))
    c.mean.ensures.value c.mean-2.ensures.value c.mean.ensures.near c.mean-2.ensures.near in
    record { value = r.value; place = r.place }
