use Rattle.std.proofs.Common.{arith}
use Rattle.std.proofs.lemmas.Int.{ints}
use Rattle.outline_slab.specs.Inner.Side.{side_edge}
use Rattle.outline_slab.proofs.Scaled.{down_crosses, up_crosses}
use Rattle.outline_slab.proofs.side.Side.crosses_row.Goals as goal

pub returns-then-self : goal.returns-then-self
returns-then-self c = λ q w. down_crosses (side_edge c.args.self) q _ (omega (arith, ints)) (c.crosses_down.ensures q w)

pub returns-else-self : goal.returns-else-self
returns-else-self c = λ q w.
    let e = rw (c.turned.ensures.start, c.turned.ensures.finish) at c.crosses_down-else-self.ensures q w in
    up_crosses (side_edge c.args.self) q _ (omega (arith, ints)) e
