use Rattle.bins.specs.Meeting.{AreThoseMeetingAmong}
use Rattle.bins.proofs.walk.add_meeting.Given as goal

abbrev pub invariant-each : goal.invariant-each
invariant-each l = AreThoseMeetingAmong l.octs l.oct l.j l.into.items
