use Rattle.std.proofs.Common.{refl}
use Rattle.std.proofs.lemmas.Bool.{iff_false}
use Rattle.std.proofs.lemmas.Int.{to_z-of_z}
use Rattle.cores.proofs.AreaTests.{middle_found, low_found, high_last}
use Rattle.cores.proofs.steps.is_side_close.Goals as goal

pub returns-then-is_middle_close : goal.returns-then-is_middle_close
returns-then-is_middle_close c =
    let across = c.ranges.c in
    let low = c.ranges.low in
    let high = c.ranges.high in
    let middle = simp to_z-of_z at c.is_middle_close.ensures in
    (λ z. middle_found c.args.a c.args.c c.args.low c.args.high (middle.0 c.if-is_middle_close.true), λ z. refl)

pub returns-then-is_low_close : goal.returns-then-is_low_close
returns-then-is_low_close c =
    let across = c.ranges.c in
    let end = c.ranges.low in
    let low = simp to_z-of_z at c.is_low_close.ensures in
    (λ z. low_found c.args.a c.args.c c.args.low c.args.high (low.0 c.if-is_low_close.true), λ z. refl)

pub returns : goal.returns
returns c =
    let across = c.ranges.c in
    let least = c.ranges.low in
    let most = c.ranges.high in
    let middle = simp to_z-of_z at c.is_middle_close.ensures in
    let low = simp to_z-of_z at c.is_low_close.ensures in
    let high = simp to_z-of_z at c.is_high_close.ensures in
    high_last c.is_high_close.result c.args.a c.args.c c.args.low c.args.high
    (iff_false middle c.if-is_middle_close.false) (iff_false low c.if-is_low_close.false) high
