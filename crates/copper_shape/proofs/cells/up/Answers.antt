use Rattle.std.proofs.Common.{arith}
use Rattle.std.proofs.lemmas.Int.{ints}
use Rattle.copper_shape.proofs.Rounded.{code_up}
use Rattle.copper_shape.proofs.cells.up.Goals as goal

pub returns : goal.returns
returns c =
    let r = code_up c.args.n c.args.z c.ceil_div.result _ _ c.requires.scale.0 c.requires.near (omega (arith, ints, c.requires.near, c.requires.scale)) (omega (arith, ints, c.requires.scale))
    c.ceil_div.ensures.reaches c.ceil_div.ensures.least in
    record { value = r.value; near = r.near }
