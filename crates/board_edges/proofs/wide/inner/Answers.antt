use Rattle.std.proofs.Common.{◌≡◌}
use Rattle.std.specs.Prelude.{◌*ℤ◌}
use Rattle.board_edges.proofs.Products.{sum_is, sum_range, read64}
use Rattle.board_edges.proofs.wide.inner.Goals as goal

pub returns-clause-value : goal.returns-clause-value
returns-clause-value c =
    let x : c.product.result ≡ c.args.ax *ℤ c.args.bx = rw (← read64 c.args.ax c.requires.a.0, ← read64 c.args.bx c.requires.b.0) c.product.ensures.value in
    let y : c.product-2.result ≡ c.args.ay *ℤ c.args.by = rw (← read64 c.args.ay c.requires.a.1, ← read64 c.args.by c.requires.b.1) c.product-2.ensures.value in
    sum_is c.product.result c.product-2.result _ _ c.product.ensures.range c.product-2.ensures.range x y

pub returns-clause-range : goal.returns-clause-range
returns-clause-range c = sum_range c.product.result c.product-2.result c.product.ensures.range c.product-2.ensures.range
