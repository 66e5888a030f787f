use Rattle.std.proofs.Common.{arith, ◌∙◌, ◌+◌, ◌-◌, ap, subst, Some, take, drop, length}
use Rattle.desk.specs.Seen.{Changes, with_said}
use Rattle.desk.proofs.Told.{changed}
use Rattle.desk.proofs.Rooms.{room_left, has_less}
use Rattle.board_table.proofs.Says.{says_more}
use Rattle.board_table.proofs.saying.say_all.Goals as goal

pub sayings-preserved : goal.sayings-preserved
sayings-preserved g c =
    let ok : Changes (g.D.Desk.seen c.sayings.desk) (g.D.Desk.seen c.say.new.self) (with_said (take c.in-Ok.count (drop c.sayings.given c.args.bytes.now))) =
    subst (λ xs. Changes (g.D.Desk.seen c.sayings.desk) (g.D.Desk.seen c.say.new.self) (with_said (take c.in-Ok.count xs))) c.split_at.ensures.back c.in-Ok.ensures.ok in
    record {
      within = omega (arith, c.in-Ok.ensures.within, c.split_at.ensures.back_len, c.sayings.invariant.within);
      so_far = λ s e.
          changed (with_said (take c.in-Ok.count (drop c.sayings.given c.args.bytes.now))) _ _ _ (c.sayings.invariant.so_far s e) ok
          ∙ ap Some (says_more c.args.bytes.now c.sayings.given c.in-Ok.count s);
      room = room_left _ _ c.in-Ok.count (length c.args.bytes.now - (c.sayings.given + c.in-Ok.count))
          (has_less _ _ (length c.args.bytes.now - c.sayings.given) (omega (arith, c.in-Ok.ensures.within, c.split_at.ensures.back_len, c.sayings.invariant.within)) c.sayings.invariant.room)
          c.in-Ok.ensures.spent;
      later = omega (arith, c.sayings.invariant.later, c.in-Ok.ensures.cause.later);
      others = (c.in-Ok.ensures.others.0 ∙ c.sayings.invariant.others.0, c.in-Ok.ensures.others.1 ∙ c.sayings.invariant.others.1, c.in-Ok.ensures.others.2 ∙ c.sayings.invariant.others.2);
    }
