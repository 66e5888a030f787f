use Rattle.scan_runs.proofs.Groups.{small_strip_at, grouped_more}
use Rattle.scan_runs.proofs.group.group.Goals as goal

pub take_in-requires-clause-strip : goal.take_in-requires-clause-strip
take_in-requires-clause-strip c = rw c.strip-item.is (small_strip_at c.args.strips.now c.strips.strip-index _ c.requires c.strips-test.true)

pub strips-preserved : goal.strips-preserved
strips-preserved c =
    grouped_more c.args.strips.now c.strips.strip-index _ c.strips.bands.items c.take_in.new.bands.items c.strips-test.true c.strips.invariant (rw c.strip-item.is at c.in_ok-take_in.ensures)
