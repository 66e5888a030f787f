use Rattle.board_edges.proofs.Products.{product_range}
use Rattle.board_edges.proofs.wide.product.Goals as goal

pub returns-clause-range : goal.returns-clause-range
returns-clause-range c = product_range c.args.a c.args.b c.requires.a c.requires.b
