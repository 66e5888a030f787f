use Rattle.fill_rules.specs.Fill.{fill_of}
use Rattle.fill_rules.proofs.Spared.{one_size, told_by_count}
use Rattle.fill_rules.proofs.island_law.Goals as goal

pub returns-clause-one : goal.returns-clause-one
returns-clause-one c = λ b i x m n. one_size b (fill_of b) i x m n

pub returns-clause-size : goal.returns-clause-size
returns-clause-size c = λ b i x area n. told_by_count b (fill_of b) i x area n
