use Rattle.std.proofs.Common.{arith, w64, to_z, of_z}
use Rattle.std.proofs.lemmas.Int.{ints}
use Rattle.copper_shape.proofs.Cuts.{code_mean}
use Rattle.copper_shape.proofs.pieces.mean.Goals as goal

pub overflow_add-result : goal.overflow_add-result
overflow_add-result c =
    (code_mean c.args.i c.args.j c.args.s c.args.t (to_z w64 c.args.i) (to_z w64 (of_z w64 c.args.s)) (to_z w64 c.args.j) (to_z w64 (of_z w64 c.args.t))
    (omega (arith, ints)) (omega (arith, ints, c.requires.s)) (omega (arith, ints)) (omega (arith, ints, c.requires.t))
    c.requires.weights c.requires.s c.requires.t).fits

pub returns : goal.returns
returns c =
    let r = code_mean c.args.i c.args.j c.args.s c.args.t (to_z w64 c.args.i) (to_z w64 (of_z w64 c.args.s)) (to_z w64 c.args.j) (to_z w64 (of_z w64 c.args.t))
    (omega (arith, ints)) (omega (arith, ints, c.requires.s)) (omega (arith, ints)) (omega (arith, ints, c.requires.t))
    c.requires.weights c.requires.s c.requires.t in
    record { value = r.value; near = r.near }
