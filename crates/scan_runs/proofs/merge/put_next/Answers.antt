use Rattle.scan_runs.proofs.Walk.{walked_before, walked_joint}
use Rattle.scan_runs.proofs.merge.put_next.Goals as goal

pub returns-in_ok-push-in-Before-clause-some : goal.returns-in_ok-push-in-Before-clause-some
returns-in_ok-push-in-Before-clause-some c = rw c.in_ok-push-in-Before.ensures.items (walked_before c.args.more c.args.held c.args.part c.args.out.now.items c.in-Before.ensures)

pub returns-in-Joint-clause-some : goal.returns-in-Joint-clause-some
returns-in-Joint-clause-some c = walked_joint c.args.more c.args.held c.args.part c.in-Joint.both c.args.out.now.items c.in-Joint.ensures
