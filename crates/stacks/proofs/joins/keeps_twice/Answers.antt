use Rattle.std.proofs.Common.{arith, inr}
use Rattle.std.proofs.lemmas.Int.{ints}
use Rattle.stacks.proofs.joins.keeps_twice.Goals as goal

pub returns-else-own-other : goal.returns-else-own-other
returns-else-own-other c = λ t. inr (omega (arith, ints, t))
