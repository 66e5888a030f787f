use Rattle.std.proofs.Common.{arith, ◌∙◌, ◌+◌, ◌-◌, ap, Some, take, length}
use Rattle.desk.specs.Seen.{with_said}
use Rattle.desk.proofs.Told.{changed}
use Rattle.desk.proofs.Loops.{says_more}
use Rattle.desk.proofs.Rooms.{room_left, has_less, spends_both}
use Rattle.desk.proofs.whole_files.say_all.Goals as goal

pub sayings-preserved : goal.sayings-preserved
sayings-preserved g c = record {
  within = omega (arith, c.in-Ok.ensures.within, c.piece_at.ensures.within);
  so_far = λ s e.
      changed (with_said (take c.in-Ok.count c.piece_at.result.now)) _ _ _ (c.sayings.invariant.so_far s e) c.in-Ok.ensures.ok
      ∙ ap Some (says_more c.args.bytes.now c.piece_at.result.now c.sayings.given c.in-Ok.count s (c.piece_at.ensures.piece c.in-Ok.count c.in-Ok.ensures.within));
  room = room_left _ _ c.in-Ok.count (length c.args.bytes.now - (c.sayings.given + c.in-Ok.count))
      (has_less _ _ (length c.args.bytes.now - c.sayings.given) (omega (arith, c.in-Ok.ensures.within, c.piece_at.ensures.within)) c.sayings.invariant.room)
      c.in-Ok.ensures.spent;
  spent = spends_both _ _ _ _ _ c.sayings.invariant.spent c.in-Ok.ensures.spent;
  later = omega (arith, c.sayings.invariant.later, c.in-Ok.ensures.cause.later);
  others = (c.in-Ok.ensures.others.0 ∙ c.sayings.invariant.others.0, c.in-Ok.ensures.others.1 ∙ c.sayings.invariant.others.1, c.in-Ok.ensures.others.2 ∙ c.sayings.invariant.others.2);
}
