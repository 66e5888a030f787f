use Rattle.std.proofs.Common.{arith}
use Rattle.std.proofs.lemmas.Int.{ints}
use Rattle.scan_runs.proofs.StripLaws.{kept_open, kept_as}
use Rattle.scan_runs.proofs.strip.keep_open.Goals as goal

pub returns-then-not-is_open : goal.returns-then-not-is_open
returns-then-not-is_open c = kept_as c.args.oct.now c.args.out.now.items c.args.top c.args.bottom _ _ (omega (arith, ints)) (omega (arith, ints)) (c.is_open.ensures c.if-not-is_open.true)

pub returns : goal.returns
returns c = rw c.in_ok-push.ensures.items (kept_open c.args.oct.now c.args.out.now.items c.args.top c.args.bottom)
