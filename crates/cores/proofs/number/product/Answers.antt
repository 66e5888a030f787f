use Rattle.cores.proofs.Plain.{product_range}
use Rattle.cores.proofs.number.product.Goals as goal

pub returns-clause-range : goal.returns-clause-range
returns-clause-range c = product_range c.args.a c.args.b c.requires.a c.requires.b
