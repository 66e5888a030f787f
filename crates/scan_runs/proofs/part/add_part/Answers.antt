use Rattle.std.proofs.Common.{arith}
use Rattle.std.proofs.lemmas.Int.{ints}
use Rattle.scan_runs.proofs.PartLaws.{with_absent, with_along}
use Rattle.scan_runs.proofs.part.add_part.Goals as goal

pub returns-in-Absent-clause-yes : goal.returns-in-Absent-clause-yes
returns-in-Absent-clause-yes c h = with_absent c.args.o.now c.args.top _ c.args.more c.args.out.now.items (omega (arith, ints)) c.in-Absent.ensures

pub returns-in_ok-push-in-Along-clause-yes : goal.returns-in_ok-push-in-Along-clause-yes
returns-in_ok-push-in-Along-clause-yes c h =
    rw c.in_ok-push-in-Along.ensures.items (with_along c.args.o.now c.args.top _ c.args.more c.in-Along.run' c.args.out.now.items (omega (arith, ints)) c.in-Along.ensures)
