use Rattle.std.proofs.Common.{arith}
use Rattle.std.specs.Prelude.{◌↔◌, ◌≤ℤ◌, IsTrue}
use Rattle.std.proofs.lemmas.Int.{ints}
use Rattle.scan_rows.specs.Inner.Cutting.{bounds}
use Rattle.scan_rows.proofs.Pieces.{ordered_by}
use Rattle.scan_rows.proofs.cut.ordered.Goals as goal

pub returns : goal.returns
returns c =
    let b = c.args.b.now in
    let x : IsTrue c.is_no_more-x.result ↔ (b.x0 ≤ℤ b.x1) = (λ h. omega (arith, ints, c.is_no_more-x.ensures.0 h), λ h. c.is_no_more-x.ensures.1 (omega (arith, ints))) in
    let y : IsTrue c.is_no_more-y.result ↔ (b.y0 ≤ℤ b.y1) = (λ h. omega (arith, ints, c.is_no_more-y.ensures.0 h), λ h. c.is_no_more-y.ensures.1 (omega (arith, ints))) in
    let s : IsTrue c.is_no_more-s.result ↔ (b.s0 ≤ℤ b.s1) = (λ h. omega (arith, ints, c.is_no_more-s.ensures.0 h), λ h. c.is_no_more-s.ensures.1 (omega (arith, ints))) in
    let d : IsTrue c.is_no_more-d.result ↔ (b.d0 ≤ℤ b.d1) = (λ h. omega (arith, ints, c.is_no_more-d.ensures.0 h), λ h. c.is_no_more-d.ensures.1 (omega (arith, ints))) in
    ordered_by (bounds b) _ _ _ _ _ x y s d c.all.ensures
