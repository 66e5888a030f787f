use Rattle.scan_runs.proofs.EndLaws.{apart_by, place_small, kept_small, leaves_plain}
use Rattle.std.proofs.Common.{arith}
use Rattle.scan_runs.proofs.ends.is_apart.Goals as goal

pub leaves-last-requires-clause-a : goal.leaves-last-requires-clause-a
leaves-last-requires-clause-a c = kept_small c.place_at-e_last.result (place_small c.args.e c.args.more c.place_at-e_last.result c.requires.more c.requires.e c.place_at-e_last.ensures)

pub returns-then-first-clause-yes : goal.returns-then-first-clause-yes
returns-then-first-clause-yes c = λ t.
    let a = place_small c.args.e 0 c.place_at-e_first.result (omega arith) c.requires.e c.place_at-e_first.ensures in
    let b = place_small c.args.f 0 c.place_at-f_first.result (omega arith) c.requires.f c.place_at-f_first.ensures in
    let d = place_small c.args.e c.args.more c.place_at-e_last.result c.requires.more c.requires.e c.place_at-e_last.ensures in
    let e = place_small c.args.f c.args.more c.place_at-f_last.result c.requires.more c.requires.f c.place_at-f_last.ensures in
    apart_by c.args.more c.args.gap c.args.e c.args.f c.place_at-e_first.result c.place_at-f_first.result c.place_at-e_last.result c.place_at-f_last.result
    c.place_at-e_first.ensures c.place_at-f_first.ensures c.place_at-e_last.ensures c.place_at-f_last.ensures
    (leaves_plain c.place_at-e_first.result c.place_at-f_first.result c.args.gap a b c.requires.gap (c.leaves-first.ensures.yes c.if-first.true))
    (leaves_plain c.place_at-e_last.result c.place_at-f_last.result c.args.gap d e c.requires.gap (c.leaves-last.ensures.yes t))
