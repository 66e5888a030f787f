use Rattle.std.proofs.Common.{arith, ◌≡◌, ap}
use Rattle.std.specs.Prelude.{ℤ, ◌-ℤ◌}
use Rattle.std.proofs.lemmas.Int.{ints}
use mir.Val.{to_z, of_z}
use mir.Syntax.{w64}
use Rattle.grid_num.specs.declared.Point.{Point}
use Rattle.outline_slab.proofs.SideTests.{folded_test}
use Rattle.outline_slab.proofs.side.Side.is_folded.Goals as goal

pub returns : goal.returns
returns c =
    let s = c.args.self in
    let n = c.args.next in
    let x : Point → ℤ = λ p. p.x in
    let y : Point → ℤ = λ p. p.y in
    let sx : c.turned-back.result.start.x ≡ s.finish.x = ap x c.turned-back.ensures.start in
    let sy : c.turned-back.result.start.y ≡ s.finish.y = ap y c.turned-back.ensures.start in
    let fx : c.turned-back.result.finish.x ≡ s.start.x = ap x c.turned-back.ensures.finish in
    let fy : c.turned-back.result.finish.y ≡ s.start.y = ap y c.turned-back.ensures.finish in
    let e1 : to_z w64 (of_z w64 c.run.result) ≡ s.start.x -ℤ s.finish.x = omega (arith, ints, c.run.ensures.value) in
    let e2 : to_z w64 (of_z w64 c.run-2.result) ≡ n.finish.x -ℤ n.start.x = omega (arith, ints, c.run-2.ensures.value) in
    let e3 : to_z w64 (of_z w64 c.rise.result) ≡ s.start.y -ℤ s.finish.y = omega (arith, ints, c.rise.ensures.value) in
    let e4 : to_z w64 (of_z w64 c.rise-2.result) ≡ n.finish.y -ℤ n.start.y = omega (arith, ints, c.rise-2.ensures.value) in
    folded_test _ _ _ _ _ _ _ _ _ _ _ e1 e2 e3 e4 c.both.ensures c.same_sign-across.ensures c.same_sign-along.ensures
