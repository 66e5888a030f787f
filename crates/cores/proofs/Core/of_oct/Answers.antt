use Rattle.std.proofs.Common.{ap}
use Rattle.touching.specs.Core.{area}
use Rattle.cores.proofs.Makers.{whole_times}
use Rattle.cores.proofs.Core.of_oct.Goals as goal

pub invariant_of-result : goal.invariant_of-result
invariant_of-result c = whole_times _ _ c.of_oct.ensures.value c.of_oct.ensures.tight

pub returns : goal.returns
returns c = ap (λ b. area b) c.of_oct.ensures.value
