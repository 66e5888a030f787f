use Rattle.std.proofs.Common.{arith}
use Rattle.std.proofs.lemmas.Int.{ints}
use Rattle.octagon.specs.contracts.Oct.{the_view}
use Rattle.octagon.proofs.Plain.{IsOct-sum, In-sum, code_sum-is}
use Rattle.octagon.proofs.Oct.sum.Goals as goal

pub overflow_add-result : goal.overflow_add-result
overflow_add-result c = omega (arith, ints)

pub overflow_add-result-2 : goal.overflow_add-result-2
overflow_add-result-2 c = omega (arith, ints)

pub overflow_add-result-3 : goal.overflow_add-result-3
overflow_add-result-3 c = omega (arith, ints)

pub overflow_add-result-4 : goal.overflow_add-result-4
overflow_add-result-4 c = omega (arith, ints)

pub overflow_add-result-5 : goal.overflow_add-result-5
overflow_add-result-5 c = omega (arith, ints)

pub overflow_add-result-6 : goal.overflow_add-result-6
overflow_add-result-6 c = omega (arith, ints)

pub overflow_add-result-7 : goal.overflow_add-result-7
overflow_add-result-7 c = omega (arith, ints)

pub overflow_add-result-8 : goal.overflow_add-result-8
overflow_add-result-8 c = omega (arith, ints)

pub invariant_of-result : goal.invariant_of-result
invariant_of-result c =
    IsOct-sum (the_view c.self.inside) (the_view c.other.inside) c.self.invariant c.other.invariant
    (rw (← c.self.view_is, ← c.other.view_is) at c.requires)

pub returns : goal.returns
returns c =
    record {
      points = rw (← c.self.view_is, ← c.other.view_is) (In-sum (the_view c.self.inside) (the_view c.other.inside) c.self.invariant c.other.invariant);
      value = rw (← c.self.view_is, ← c.other.view_is) (code_sum-is (the_view c.self.inside) (the_view c.other.inside) c.self.invariant c.other.invariant);
    }
