use Rattle.std.proofs.Common.{sym, arith}
use Rattle.std.proofs.lemmas.Int.{ints}
use Rattle.octagon.proofs.ask.closer.Goals as goal

pub returns-then-a0-b1 : goal.returns-then-a0-b1
returns-then-a0-b1 c =
    let low0 = c.requires.low.0 in
    let low1 = c.requires.low.1 in
    let high0 = c.requires.high.0 in
    let high1 = c.requires.high.1 in
    (λ t. (omega (arith, ints), omega (arith, ints)), λ f. sym (omega (arith, ints)))
