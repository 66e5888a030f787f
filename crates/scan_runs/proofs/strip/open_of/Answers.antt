use Rattle.std.proofs.Common.{arith}
use Rattle.std.proofs.lemmas.Int.{ints}
use Rattle.scan_runs.proofs.StripLaws.{open_none, open_more, open_end}
use Rattle.scan_runs.proofs.strip.open_of.Goals as goal

pub octs-init : goal.octs-init
octs-init c = rw c.new-near.ensures.items (open_none _ c.args.more)

pub octs-preserved : goal.octs-preserved
octs-preserved c =
    open_more c.oct-item.result c.args.octs.now c.octs.near.items c.keep_open.new.out.items c.octs.oct-index _ _ c.args.more c.octs-test.true c.oct-item.is (omega (arith, ints)) c.octs.invariant c.in_ok-keep_open.ensures

pub returns : goal.returns
returns c = open_end c.args.octs.now c.octs.oct-index c.args.top _ c.args.more c.octs.near.items c.octs-test.false (omega (arith, ints)) c.octs.invariant
