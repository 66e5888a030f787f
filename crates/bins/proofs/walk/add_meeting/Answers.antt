use Rattle.std.proofs.Common.{arith}
use Rattle.std.proofs.lemmas.Bool.{iff_false}
use Rattle.bins.proofs.Walks.{found_more, found_other}
use Rattle.bins.proofs.walk.add_meeting.Goals as goal
use Rattle.bins.proofs.walk.add_meeting.Goals.{then-meets+in_ok-push, else-meets}

pub each-preserved : goal.each-preserved
each-preserved c =
    elim c.if-meets.branch [
      | then-meets+in_ok-push w ↦ rw (w.into-is, w.in_ok-push.ensures.items)
          (found_more c.args.octs.now c.args.oct.now _ c.each.j _ (omega (arith, c.each-test.true, c.requires.within.1)) c.index-octs-j.is (c.meets.ensures.0 w.if-meets.true) c.each.invariant)
      | else-meets w ↦ rw (w.into-is)
          (found_other c.args.octs.now c.args.oct.now _ c.each.j _ (omega (arith, c.each-test.true, c.requires.within.1)) c.index-octs-j.is (λ m. iff_false c.meets.ensures w.if-meets.false m) c.each.invariant)
    ]
