use Rattle.touching.specs.Core.{IsWhole}
use Rattle.cores.proofs.Core.segment.Goals as goal

pub invariant_of-result : goal.invariant_of-result
unfolding IsWhole
invariant_of-result c = tt
