use Rattle.cores.proofs.Plain.{product_value, difference_value, difference_range}
use Rattle.cores.proofs.number.cross_product.Goals as goal

pub returns-clause-value : goal.returns-clause-value
returns-clause-value c =
    difference_value c.product.result c.product-2.result _ _ c.product.ensures.range c.product-2.ensures.range
    (product_value _ _ _ c.ranges.ax c.ranges.by c.product.ensures.value) (product_value _ _ _ c.ranges.ay c.ranges.bx c.product-2.ensures.value)

pub returns-clause-range : goal.returns-clause-range
returns-clause-range c = difference_range c.product.result c.product-2.result c.product.ensures.range c.product-2.ensures.range
