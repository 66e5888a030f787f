use Rattle.std.proofs.Common.{◌-◌, length}
use Rattle.fill_text.proofs.Alikes.{IsWalking}
use Rattle.fill_text.proofs.members.cluster_of.Given as goal

abbrev pub invariant-each : goal.invariant-each
invariant-each l = IsWalking l.labels l.label l.at l.members.items

abbrev pub decreases-each : goal.decreases-each
decreases-each l = length l.next - l.at
