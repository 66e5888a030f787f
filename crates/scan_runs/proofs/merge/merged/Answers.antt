use Rattle.std.proofs.lemmas.List.Sorted.{All-permutation}
use Rattle.scan_runs.specs.Inner.Parts.{IsPart}
use Rattle.scan_runs.proofs.Walk.{merged_some}
use Rattle.scan_runs.proofs.merge.merged.Goals as goal

pub walked-requires-clause-parts : goal.walked-requires-clause-parts
walked-requires-clause-parts c = rw c.deref.ensures.value (All-permutation (λ s. IsPart c.args.more s) c.args.parts.items c.from_left.result.items c.from_left.ensures.order c.requires.parts)

pub returns-clause-some : goal.returns-clause-some
returns-clause-some c =
    merged_some (λ v. v.items) c.args.more c.args.parts.items c.from_left.result.items c.walked.result c.from_left.ensures.order (rw c.deref.ensures.value at c.walked.ensures.some)
