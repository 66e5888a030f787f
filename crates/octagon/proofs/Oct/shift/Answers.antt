use Rattle.std.proofs.Common.{arith}
use Rattle.std.proofs.lemmas.Int.{ints}
use Rattle.octagon.specs.contracts.Oct.{the_view}
use Rattle.octagon.proofs.Moves.{code_shift-is, IsOct-shift, In-shift, fits_sum, fits_difference}
use Rattle.octagon.proofs.Plain.{IsOct-IsSmall}
use Rattle.octagon.proofs.Oct.shift.Goals as goal

pub overflow_add-result : goal.overflow_add-result
overflow_add-result c = omega (arith, ints)

pub overflow_add-result-2 : goal.overflow_add-result-2
overflow_add-result-2 c = omega (arith, ints)

pub overflow_add-result-3 : goal.overflow_add-result-3
overflow_add-result-3 c = omega (arith, ints)

pub overflow_add-result-4 : goal.overflow_add-result-4
overflow_add-result-4 c = omega (arith, ints)

pub overflow_add-result-5 : goal.overflow_add-result-5
overflow_add-result-5 c = fits_sum c.self.inside.s0 c.args.p.x c.args.p.y (IsOct-IsSmall (the_view c.self.inside) c.self.invariant).s0 c.requires.reach.x c.requires.reach.y

pub overflow_add-result-6 : goal.overflow_add-result-6
overflow_add-result-6 c = fits_sum c.self.inside.s1 c.args.p.x c.args.p.y (IsOct-IsSmall (the_view c.self.inside) c.self.invariant).s1 c.requires.reach.x c.requires.reach.y

pub overflow_add-result-7 : goal.overflow_add-result-7
overflow_add-result-7 c = fits_difference c.self.inside.d0 c.args.p.x c.args.p.y (IsOct-IsSmall (the_view c.self.inside) c.self.invariant).d0 c.requires.reach.x c.requires.reach.y

pub overflow_add-result-8 : goal.overflow_add-result-8
overflow_add-result-8 c = fits_difference c.self.inside.d1 c.args.p.x c.args.p.y (IsOct-IsSmall (the_view c.self.inside) c.self.invariant).d1 c.requires.reach.x c.requires.reach.y

pub invariant_of-result : goal.invariant_of-result
invariant_of-result c =
    IsOct-shift (the_view c.self.inside) c.args.p c.self.invariant c.requires.reach (rw (← c.self.view_is) at c.requires.room)

pub returns : goal.returns
returns c =
    record {
      points = rw (← c.self.view_is) (In-shift (the_view c.self.inside) c.args.p c.self.invariant c.requires.reach);
      value = rw (← c.self.view_is) (code_shift-is (the_view c.self.inside) c.args.p c.self.invariant c.requires.reach.x c.requires.reach.y);
    }
