use Rattle.std.proofs.Common.{ap}
use Rattle.touching.specs.Core.{area}
use Rattle.cores.proofs.Makers.{whole_box}
use Rattle.cores.proofs.Core.rectangle.Goals as goal

pub invariant_of-result : goal.invariant_of-result
invariant_of-result c = whole_box _ _ _ _ _ c.rectangle.ensures c.requires.across c.requires.along

pub returns : goal.returns
returns c = ap (λ b. area b) c.rectangle.ensures
