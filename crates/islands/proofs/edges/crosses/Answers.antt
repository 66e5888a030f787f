use Rattle.std.proofs.Common.{arith}
use Rattle.std.proofs.lemmas.Int.{ints}
use Rattle.islands.proofs.Crossings.{crosses_as_down, crosses_as_up}
use Rattle.islands.proofs.edges.crosses.Goals as goal

pub returns-then-edge : goal.returns-then-edge
returns-then-edge c = crosses_as_down c.args.edge c.args.at _ (let l = c.if-edge.true in omega (arith, ints)) c.crosses_down.ensures

pub returns-else-edge : goal.returns-else-edge
returns-else-edge c = crosses_as_up c.args.edge c.args.at _ (let l = c.if-edge.false in omega (arith, ints)) c.crosses_down-else-edge.ensures
