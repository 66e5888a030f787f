use Rattle.std.proofs.Common.{arith, ◌≡◌}
use Rattle.std.specs.Prelude.{◌-ℤ◌}
use Rattle.std.proofs.lemmas.Int.{ints}
use mir.Val.{to_z, of_z}
use mir.Syntax.{w64}
use Rattle.outline_slab.specs.Inner.Side.{side_edge}
use Rattle.outline_slab.proofs.SideTests.{right_test}
use Rattle.outline_slab.proofs.side.Side.is_right.Goals as goal

pub returns : goal.returns
returns c =
    let s = c.args.self in
    let x : to_z w64 (of_z w64 c.run-run.result) ≡ s.finish.x -ℤ s.start.x = omega (arith, ints, c.run-run.ensures.value) in
    let y : to_z w64 (of_z w64 c.rise-rise.result) ≡ s.finish.y -ℤ s.start.y = omega (arith, ints, c.rise-rise.ensures.value) in
    right_test (side_edge s) _ _ _ _ _ x y c.both.ensures c.goes.ensures c.is_eighth.ensures
