use Rattle.std.proofs.Common.{◌≡◌, arith}
use Rattle.std.specs.Prelude.{pos, ◌-ℤ◌, ◌*ℤ◌}
use Rattle.std.proofs.lemmas.Int.{ints, to_z-of_z}
use mir.Val.{to_z, of_z}
use mir.Syntax.{w64}
use Rattle.outline_slab.proofs.Scaled.{product_is, span_fits, reach_fits}
use Rattle.outline_slab.proofs.side.Side.lean.Goals as goal

pub returns-clause-run : goal.returns-clause-run
returns-clause-run c =
    let s = c.args.self in
    let f = reach_fits c.args.p.y c.requires.reach.y in
    let g = span_fits s.start.y c.requires.start.y in
    let d = simp to_z-of_z at c.offset-down.ensures.value in
    let x : to_z w64 (of_z w64 c.run.result) ≡ s.finish.x -ℤ s.start.x = omega (arith, ints, c.run.ensures.value) in
    let y : to_z w64 (of_z w64 c.offset-down.result) ≡ c.args.p.y -ℤ pos c.args.scale *ℤ s.start.y = omega (arith, ints, d) in
    product_is _ _ _ _ c.product.result c.product.ensures x y (record { sfits = c.product.type_inv })

pub returns-clause-rise : goal.returns-clause-rise
returns-clause-rise c =
    let s = c.args.self in
    let f = reach_fits c.args.p.x c.requires.reach.x in
    let g = span_fits s.start.x c.requires.start.x in
    let d = simp to_z-of_z at c.offset-right.ensures.value in
    let x : to_z w64 (of_z w64 c.rise.result) ≡ s.finish.y -ℤ s.start.y = omega (arith, ints, c.rise.ensures.value) in
    let y : to_z w64 (of_z w64 c.offset-right.result) ≡ c.args.p.x -ℤ pos c.args.scale *ℤ s.start.x = omega (arith, ints, d) in
    product_is _ _ _ _ c.product-2.result c.product-2.ensures x y (record { sfits = c.product-2.type_inv })
