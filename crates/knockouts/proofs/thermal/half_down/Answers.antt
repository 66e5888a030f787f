use Rattle.std.proofs.Common.{◌*◌, arith, sym, subst}
use Rattle.std.specs.Prelude.{ℤ}
use Rattle.std.proofs.lemmas.Int.{ints}
use Rattle.plane.specs.Narrow.{IsNearZero}
use Rattle.copper_shape.proofs.Rounded.{code_down, low_near}
use Rattle.knockouts.proofs.thermal.half_down.Goals as goal

pub returns-clause-value : goal.returns-clause-value
returns-clause-value c =
    let wide : IsNearZero (2 * 500000000) c.args.z = record { low = omega (arith, ints, c.requires.low); high = omega (arith, ints, c.requires.high) } in
    (code_down 2 c.args.z c.ceil_div.result _ _ (omega arith) wide (omega (arith, ints, c.requires)) (omega (arith, ints)) c.ceil_div.ensures.reaches c.ceil_div.ensures.least).value

pub returns-clause-near : goal.returns-clause-near
returns-clause-near c =
    subst (λ (z : ℤ). IsNearZero 250000000 z) (sym (returns-clause-value c)) (low_near 2 250000000 c.args.z (omega arith) c.requires)
