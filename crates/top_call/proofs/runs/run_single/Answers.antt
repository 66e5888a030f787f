use Rattle.std.proofs.Common.{◌∙◌, map}
use Rattle.std.specs.String.{string_bytes}
use Rattle.top_call.proofs.OneDue.{answers_due}
use Rattle.top_call.proofs.EndsOf.{ends_of, quiet_before}
use Rattle.top_call.proofs.Settled.{settled}
use Rattle.top_call.proofs.runs.run_single.Goals as goal

pub returns-clause-ends : goal.returns-clause-ends
returns-clause-ends g c s e =
    let w = c.work_single-ended.ensures.leaves s e in
    ends_of c.work_single-ended.result (map string_bytes c.args.words.now) (g.D.Desk.counts c.args.desk.now) (g.D.Desk.counts c.work_single-ended.new.desk) (g.D.Desk.counts c.complain_all.new.desk)
    s w.0 _ c.as_slice.result.now w.1 (c.as_slice.ensures.value ∙ c.complaint.ensures) c.work_single-ended.ensures.quiet (c.complain_all.ensures.said w.0 w.2) (c.complain_all.ensures.whole w.0 w.2)

pub returns-clause-complete : goal.returns-clause-complete
returns-clause-complete g c s e q due d =
    let w = c.work_single-ended.ensures.leaves s e in
    answers_due c.work_single-ended.result (map string_bytes c.args.words.now) (g.D.Desk.counts c.args.desk.now) (g.D.Desk.counts c.work_single-ended.new.desk) s w.0 due w.1 c.work_single-ended.ensures.cause
    (quiet_before _ _ _ c.complain_all.ensures.others q) d

pub returns-clause-settles : goal.returns-clause-settles
returns-clause-settles g c s e q f =
    let w = c.work_single-ended.ensures.leaves s e in
    settled c.work_single-ended.result (map string_bytes c.args.words.now) (g.D.Desk.counts c.args.desk.now) (g.D.Desk.counts c.work_single-ended.new.desk) s w.0 w.1 c.work_single-ended.ensures.cause
    (quiet_before _ _ _ c.complain_all.ensures.others q) f
