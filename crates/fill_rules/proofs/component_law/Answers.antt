use Rattle.fill_rules.specs.Fill.{fill_of}
use Rattle.fill_rules.proofs.Laws.{component_allowed, component_whole, kept_together}
use Rattle.fill_rules.proofs.component_law.Goals as goal

pub returns-clause-allowed : goal.returns-clause-allowed
returns-clause-allowed c = λ b i x y. component_allowed b (fill_of b) i x y

pub returns-clause-whole : goal.returns-clause-whole
returns-clause-whole c = λ b i x y z. component_whole b (fill_of b) i x y z

pub returns-clause-together : goal.returns-clause-together
returns-clause-together c = λ b i x y. kept_together b (fill_of b) i x y
