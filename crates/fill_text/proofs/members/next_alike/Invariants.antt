use Rattle.fill_text.proofs.Alikes.{IsNextFrom}
use Rattle.fill_text.proofs.members.next_alike.Given as goal

abbrev pub invariant-each : goal.invariant-each
invariant-each l = IsNextFrom l.labels l.k l.seen.items l.next.items

abbrev pub decreases-each : goal.decreases-each
decreases-each l = l.k
