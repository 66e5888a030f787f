use Rattle.octagon.specs.contracts.Oct.{the_view}
use Rattle.octagon.proofs.Hull.{widened_of, widened-IsOct}
use Rattle.octagon.proofs.Oct.widened.Goals as goal

pub invariant_of-result : goal.invariant_of-result
invariant_of-result c =
    let w = widened_of (the_view c.self.inside) c.args.p.x c.args.p.y _ _ _ _ _ _ _ _ c.self.invariant c.requires.x c.requires.y
    c.min.ensures.value c.max.ensures.value c.min-2.ensures.value c.max-2.ensures.value
    c.min-3.ensures.value c.max-3.ensures.value c.min-4.ensures.value c.max-4.ensures.value in
    widened-IsOct (the_view c.self.inside) _ c.args.p.x c.args.p.y c.self.invariant c.requires.x c.requires.y w

pub returns : goal.returns
returns c =
    let w = widened_of (the_view c.self.inside) c.args.p.x c.args.p.y _ _ _ _ _ _ _ _ c.self.invariant c.requires.x c.requires.y
    c.min.ensures.value c.max.ensures.value c.min-2.ensures.value c.max-2.ensures.value
    c.min-3.ensures.value c.max-3.ensures.value c.min-4.ensures.value c.max-4.ensures.value in
    record {
      widened = rw (← c.self.view_is) w;
      oct = widened-IsOct (the_view c.self.inside) _ c.args.p.x c.args.p.y c.self.invariant c.requires.x c.requires.y w;
    }
