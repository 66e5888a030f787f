use Rattle.std.specs.Prelude.{IsTrue}
use Rattle.scan_rows.proofs.Steps.{kept_whole}
use Rattle.scan_rows.proofs.apart.add_rest.Goals as goal

pub returns-in_ok-push : goal.returns-in_ok-push
returns-in_ok-push c = rw c.in_ok-push.ensures.items (kept_whole c.args.own.now c.args.other.now c.args.out.now.items (λ m. let t : IsTrue c.meets.result = c.meets.ensures.1 m in cc))
