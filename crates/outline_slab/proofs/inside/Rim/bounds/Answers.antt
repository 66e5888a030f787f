use Rattle.std.proofs.Common.{arith}
use Rattle.std.proofs.lemmas.Int.{ints}
use Rattle.outline_slab.proofs.Wide.{box_is}
use Rattle.outline_slab.proofs.inside.Rim.bounds.Goals as goal

pub returns : goal.returns
returns c =
    let s = c.args.self in
    let x = c.requires.x in
    let y = c.requires.y in
    box_is s.left s.right s.top s.bottom _ _ _ _ _ _ _ _ (omega (arith, ints)) (omega (arith, ints)) (omega (arith, ints)) (omega (arith, ints)) (omega (arith, ints)) (omega (arith, ints)) (omega (arith, ints)) (omega (arith, ints))
