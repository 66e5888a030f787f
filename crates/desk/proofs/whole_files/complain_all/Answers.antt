use Rattle.std.proofs.Common.{arith, ◌∙◌, ◌+◌, ◌-◌, ap, Some, take, length}
use Rattle.desk.specs.Seen.{with_complained}
use Rattle.desk.proofs.Told.{changed}
use Rattle.desk.proofs.Loops.{complains_more}
use Rattle.desk.proofs.Rooms.{room_left, has_less}
use Rattle.desk.proofs.whole_files.complain_all.Goals as goal

pub complaints-preserved : goal.complaints-preserved
complaints-preserved g c = record {
  within = omega (arith, c.in-Ok.ensures.within, c.piece_at.ensures.within);
  so_far = λ s e.
      changed (with_complained (take c.in-Ok.count c.piece_at.result.now)) _ _ _ (c.complaints.invariant.so_far s e) c.in-Ok.ensures.ok
      ∙ ap Some (complains_more c.args.bytes.now c.piece_at.result.now c.complaints.given c.in-Ok.count s (c.piece_at.ensures.piece c.in-Ok.count c.in-Ok.ensures.within));
  room = room_left _ _ c.in-Ok.count (length c.args.bytes.now - (c.complaints.given + c.in-Ok.count))
      (has_less _ _ (length c.args.bytes.now - c.complaints.given) (omega (arith, c.in-Ok.ensures.within, c.piece_at.ensures.within)) c.complaints.invariant.room)
      c.in-Ok.ensures.spent;
  later = omega (arith, c.complaints.invariant.later, c.in-Ok.ensures.cause.later);
  others = (c.in-Ok.ensures.others.0 ∙ c.complaints.invariant.others.0, c.in-Ok.ensures.others.1 ∙ c.complaints.invariant.others.1, c.in-Ok.ensures.others.2 ∙ c.complaints.invariant.others.2);
}
