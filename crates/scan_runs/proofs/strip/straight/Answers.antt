use Rattle.std.proofs.Common.{arith}
use Rattle.std.proofs.lemmas.Int.{ints}
use Rattle.scan_runs.proofs.PartLaws.{so_far_some}
use Rattle.scan_runs.proofs.strip.straight.Goals as goal

pub returns-in-Some-clause-some : goal.returns-in-Some-clause-some
returns-in-Some-clause-some c =
    so_far_some (λ v. v.items) c.args.octs.now c.args.top _ c.args.more c.in-Some.parts.items c.merged.result (omega (arith, ints))
    (rw c.in-Some.is at c.in_ok-parts_of.ensures.some) c.merged.ensures.some
