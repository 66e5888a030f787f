use Rattle.std.proofs.Common.{arith}
use Rattle.std.proofs.lemmas.Int.{ints}
use Rattle.octagon.specs.contracts.Oct.{the_view}
use Rattle.octagon.proofs.Plain.{IsOct-IsSmall}
use Rattle.octagon.proofs.Moves.{code_corners-is, corners_cover}
use Rattle.octagon.proofs.Oct.corners.Goals as goal

pub overflow_sub-result : goal.overflow_sub-result
overflow_sub-result c =
    let m = IsOct-IsSmall (the_view c.self.inside) c.self.invariant in
    omega (arith, ints)

pub overflow_sub-result-2 : goal.overflow_sub-result-2
overflow_sub-result-2 c =
    let m = IsOct-IsSmall (the_view c.self.inside) c.self.invariant in
    omega (arith, ints)

pub overflow_sub-result-3 : goal.overflow_sub-result-3
overflow_sub-result-3 c =
    let m = IsOct-IsSmall (the_view c.self.inside) c.self.invariant in
    omega (arith, ints)

pub overflow_sub-result-4 : goal.overflow_sub-result-4
overflow_sub-result-4 c =
    let m = IsOct-IsSmall (the_view c.self.inside) c.self.invariant in
    omega (arith, ints)

pub overflow_sub-result-5 : goal.overflow_sub-result-5
overflow_sub-result-5 c =
    let m = IsOct-IsSmall (the_view c.self.inside) c.self.invariant in
    omega (arith, ints)

pub overflow_sub-result-6 : goal.overflow_sub-result-6
overflow_sub-result-6 c =
    let m = IsOct-IsSmall (the_view c.self.inside) c.self.invariant in
    omega (arith, ints)

pub overflow_add-result : goal.overflow_add-result
overflow_add-result c =
    let m = IsOct-IsSmall (the_view c.self.inside) c.self.invariant in
    omega (arith, ints)

pub overflow_add-result-2 : goal.overflow_add-result-2
overflow_add-result-2 c =
    let m = IsOct-IsSmall (the_view c.self.inside) c.self.invariant in
    omega (arith, ints)

pub returns : goal.returns
returns c =
    record {
      value = rw (← c.self.view_is) (code_corners-is (the_view c.self.inside) c.self.invariant);
      cover = rw (← c.self.view_is) (corners_cover (the_view c.self.inside) c.self.invariant);
    }
