use Rattle.fill_text.proofs.Counted.{count_more}
use Rattle.fill_text.proofs.numbered.part_count.Goals as goal

pub each-preserved : goal.each-preserved
each-preserved c = count_more c.args.parts.now c.each.k c.each.count c.in_ok-count.count c.each-test.true c.each.invariant c.in_ok-count.ensures
