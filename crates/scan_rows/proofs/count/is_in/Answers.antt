use Rattle.std.proofs.Common.{arith}
use Rattle.std.specs.Prelude.{IsTrue}
use Rattle.std.proofs.lemmas.Int.{ints}
use Rattle.scan_rows.proofs.Grid.{In-within, within-In, box_reach}
use Rattle.scan_rows.proofs.count.is_in.Goals as goal

pub holds-requires : goal.holds-requires
holds-requires c =
    let b = c.both.ensures.0 c.if-both.true in
    let x = c.is_between-x.ensures.0 b.0 in
    let y = c.is_between-y.ensures.0 b.1 in
    box_reach c.args.oct.now c.args.p c.x0.ensures.oct (omega (arith, ints, x.0), omega (arith, ints, x.1)) (omega (arith, ints, y.0), omega (arith, ints, y.1))

pub returns-then-both : goal.returns-then-both
returns-then-both c = (
  λ h. In-within c.args.oct.now c.args.p.x c.args.p.y (c.holds.ensures.0 h),
  λ w. c.holds.ensures.1 (within-In c.args.oct.now c.args.p.x c.args.p.y w),
)

pub returns-else-both : goal.returns-else-both
returns-else-both c = (
  λ h. absurd (cc),
  λ w. let t : IsTrue c.both.result = c.both.ensures.1 (
    c.is_between-x.ensures.1 (omega (arith, ints, w.x_low), omega (arith, ints, w.x_high)),
    c.is_between-y.ensures.1 (omega (arith, ints, w.y_low), omega (arith, ints, w.y_high)),
  ) in cc,
)
