use Rattle.std.proofs.Common.{sym, inl, inr, arith}
use Rattle.std.proofs.lemmas.Int.{ints, to_z-of_z}
use Rattle.outline_slab.proofs.covers.is_between.Goals as goal

pub returns-then-z-a : goal.returns-then-z-a
returns-then-z-a c =
    let fa = c.ranges.a in
    let fb = c.ranges.b in
    let x = simp to_z-of_z at c.scaled-a.ensures.value in
    let y = simp to_z-of_z at c.scaled-b.ensures.value in
    (λ t. inl (omega (arith, ints), omega (arith, ints)), λ b. sym (omega (arith, ints)))

pub returns-then-z-a-2 : goal.returns-then-z-a-2
returns-then-z-a-2 c =
    let fa = c.ranges.a in
    let fb = c.ranges.b in
    let x = simp to_z-of_z at c.scaled-a.ensures.value in
    let y = simp to_z-of_z at c.scaled-b.ensures.value in
    (λ t. inr (omega (arith, ints), omega (arith, ints)), λ b. sym (omega (arith, ints)))
