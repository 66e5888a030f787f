use Rattle.cores.proofs.Plain.{product_value, place_le}
use Rattle.cores.proofs.steps.is_place_close.Goals as goal

pub returns : goal.returns
returns c =
    let p = c.square.ensures in
    let q = c.square-2.ensures in
    place_le c.args.a _ _ _ _ c.requires.a p.low p.high q.low q.high (product_value _ _ _ c.ranges.c c.ranges.c p.value) (product_value _ _ _ c.ranges.e c.ranges.e q.value)
