use Rattle.cores.proofs.Plain.{product_value, sum_value, sum_range}
use Rattle.cores.proofs.number.inner_product.Goals as goal

pub returns-clause-value : goal.returns-clause-value
returns-clause-value c =
    sum_value c.product.result c.product-2.result _ _ c.product.ensures.range c.product-2.ensures.range
    (product_value _ _ _ c.ranges.ax c.ranges.bx c.product.ensures.value) (product_value _ _ _ c.ranges.ay c.ranges.by c.product-2.ensures.value)

pub returns-clause-range : goal.returns-clause-range
returns-clause-range c = sum_range c.product.result c.product-2.result c.product.ensures.range c.product-2.ensures.range
