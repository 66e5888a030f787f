use Rattle.std.proofs.Common.{refl}
use Rattle.top_call.specs.Passed.{file_of}
use Rattle.top_call.proofs.Boards.{some_passed}
use Rattle.top_call.proofs.Owes.{leaves_passed, room_for}
use Rattle.top_call.proofs.Openings.{opening_due}
use Rattle.top_call.proofs.finished.finished.Goals as goal

pub pass_on-requires-clause-some : goal.pass_on-requires-clause-some
pass_on-requires-clause-some g c = some_passed c.args.opened.now c.args.outcome c.in-Ok.passing c.requires.sound c.in-Ok.ensures

pub pass_on-requires-clause-room : goal.pass_on-requires-clause-room
pass_on-requires-clause-room g c =
    let r = c.requires.room in
    room_for r.0 _ _ _ (file_of c.in-Ok.passing) c.in-Ok.passing.said.items c.in-Ok.passing.unjoined (λ n e. g.met.D.Desk.room_is_told c.args.desk.now n e) refl r.1
    (λ s e. opening_due r.0 s c.args.opened.now c.args.outcome c.in-Ok.passing (r.2 s e) c.requires.outcome c.in-Ok.ensures)

pub returns-in-Ok-clause-leaves : goal.returns-in-Ok-clause-leaves
returns-in-Ok-clause-leaves g c words s e o =
    let passed = c.pass_on.ensures.passes s e in
    (passed.0, leaves_passed words s passed.0 c.pass_on.result _ _ _ (opening_due words s c.args.opened.now c.args.outcome c.in-Ok.passing o c.requires.outcome c.in-Ok.ensures) passed.1, passed.2)
