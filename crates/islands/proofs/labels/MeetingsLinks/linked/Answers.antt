use Rattle.std.proofs.Common.{subst, List}
use Rattle.plane.specs.Plane.{Bounds}
use Rattle.bins.specs.Meeting.{AreThoseMeeting}
use Rattle.islands.proofs.Stacked.{meeting_linked}
use Rattle.islands.proofs.labels.MeetingsLinks.linked.Goals as goal

pub returns : goal.returns
returns c =
    meeting_linked c.args.self.now.octs.items c.args.k c.index-oct.result.now c.meeting.new.into.items c.requires.there c.index-oct.ensures
    (subst (λ (os : List Bounds). AreThoseMeeting os c.index-oct.result.now c.meeting.new.into.items) c.requires.ready c.in_ok-meeting.ensures.met)
