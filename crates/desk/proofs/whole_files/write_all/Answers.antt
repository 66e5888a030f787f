use Rattle.std.proofs.Common.{arith, ◌∙◌, ◌+◌, ◌-◌, ap, Some, take, length, []}
use Rattle.desk.specs.Seen.{with_file, appended}
use Rattle.desk.specs.Room.{Spends}
use Rattle.desk.proofs.Told.{changed}
use Rattle.desk.proofs.Loops.{writes_more}
use Rattle.desk.proofs.Rooms.{room_left, has_less, spends_both, spends_more, cost-with_file, cost-appended}
use Rattle.desk.proofs.whole_files.write_all.Goals as goal

pub writes-init : goal.writes-init
writes-init g c =
    let made = c.in-Ok.ensures.ok in
    let spent = c.in-Ok.ensures.spent in
    record {
      within = omega arith;
      so_far = λ s e. changed (with_file c.args.name.now []) _ _ s e made;
      made = cost-with_file _ _ c.args.name.now [] made;
      room = has_less _ _ (length c.args.bytes.now) (omega arith) (room_left _ _ _ _ c.requires spent);
      spent = spends_more _ _ _ _ (omega arith) spent;
      later = omega (arith, c.create.ensures.cause.later);
      others = c.create.ensures.others;
    }

pub writes-preserved : goal.writes-preserved
writes-preserved g c =
    let step : Spends (g.D.Desk.room c.writes.desk) (g.D.Desk.room c.append.new.self) c.in-Ok-append.count =
    spends_more _ _ _ _ (omega (arith, c.writes.invariant.made)) c.in-Ok-append.ensures.spent in
    record {
      within = omega (arith, c.in-Ok-append.ensures.within, c.piece_at.ensures.within);
      so_far = λ s e.
          changed (appended c.args.name.now (take c.in-Ok-append.count c.piece_at.result.now)) _ _ _ (c.writes.invariant.so_far s e) c.in-Ok-append.ensures.ok
          ∙ ap Some (writes_more c.args.name.now c.args.bytes.now c.piece_at.result.now c.writes.given c.in-Ok-append.count s (c.piece_at.ensures.piece c.in-Ok-append.count c.in-Ok-append.ensures.within));
      made = cost-appended _ _ c.args.name.now _ c.in-Ok-append.ensures.ok;
      room = room_left _ _ c.in-Ok-append.count (length c.args.bytes.now - (c.writes.given + c.in-Ok-append.count))
          (has_less _ _ (length c.args.bytes.now - c.writes.given) (omega (arith, c.in-Ok-append.ensures.within, c.piece_at.ensures.within)) c.writes.invariant.room) step;
      spent = spends_more _ _ _ _ (omega arith) (spends_both _ _ _ _ _ c.writes.invariant.spent step);
      later = omega (arith, c.writes.invariant.later, c.in-Ok-append.ensures.cause.later);
      others = (c.in-Ok-append.ensures.others.0 ∙ c.writes.invariant.others.0, c.in-Ok-append.ensures.others.1 ∙ c.writes.invariant.others.1, c.in-Ok-append.ensures.others.2 ∙ c.writes.invariant.others.2);
    }
