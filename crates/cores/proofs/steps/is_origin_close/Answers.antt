use Rattle.std.proofs.Common.{refl}
use Rattle.std.proofs.lemmas.Bool.{iff_false}
use Rattle.cores.specs.Inner.Steps.{step_bounds}
use Rattle.cores.proofs.AreaTests.{origin_in, straight_found, slanted_last}
use Rattle.cores.proofs.steps.is_origin_close.Goals as goal

pub returns-then-holds_origin : goal.returns-then-holds_origin
returns-then-holds_origin c = (λ z. origin_in c.args.a (step_bounds c.args.g) (c.holds_origin.ensures.0 c.if-holds_origin.true), λ z. refl)

pub returns-then-is_straight_close : goal.returns-then-is_straight_close
returns-then-is_straight_close c = (λ z. straight_found c.args.a (step_bounds c.args.g) (c.is_straight_close.ensures.0 c.if-is_straight_close.true), λ z. refl)

pub returns : goal.returns
returns c =
    slanted_last c.is_slanted_close.result c.args.a (step_bounds c.args.g)
    (iff_false c.holds_origin.ensures c.if-holds_origin.false) (iff_false c.is_straight_close.ensures c.if-is_straight_close.false) c.is_slanted_close.ensures
