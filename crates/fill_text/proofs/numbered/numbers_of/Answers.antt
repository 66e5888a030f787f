use Rattle.fill_text.proofs.Counted.{numbers_more}
use Rattle.fill_text.proofs.numbered.numbers_of.Goals as goal

pub each-preserved : goal.each-preserved
each-preserved c = numbers_more c.args.parts.now c.each.numbers.items c.push-in-each.new.self.items c.each.k c.each.next c.in_ok-next.next c.each-test.true c.each.invariant c.in_ok-next.ensures c.in_ok-push-2.ensures.items
