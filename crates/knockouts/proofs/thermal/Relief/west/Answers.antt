use Rattle.std.proofs.Common.{refl, ◌∙◌}
use Rattle.knockouts.proofs.Boxes.{are_near, near_read, less_is, more_is, in_order, box_same}
use Rattle.knockouts.proofs.thermal.Relief.west.Goals as goal

pub less-left-requires : goal.less-left-requires
less-left-requires c = near_read c.args.hull.now.x0 c.x0.result c.x0.ensures.value (are_near c.args.self.now.centre c.args.hull.now c.requires.relief.centre c.requires.hull).x0

pub more-right-requires : goal.more-right-requires
more-right-requires c = near_read _ c.args.self.now.centre.x refl (are_near c.args.self.now.centre c.args.hull.now c.requires.relief.centre c.requires.hull).x

pub less-requires : goal.less-requires
less-requires c = near_read _ c.args.self.now.centre.y refl (are_near c.args.self.now.centre c.args.hull.now c.requires.relief.centre c.requires.hull).y

pub more-requires : goal.more-requires
more-requires c = near_read _ c.args.self.now.centre.y refl (are_near c.args.self.now.centre c.args.hull.now c.requires.relief.centre c.requires.hull).y

pub rectangle-requires-clause-wide : goal.rectangle-requires-clause-wide
rectangle-requires-clause-wide c =
    let r = c.args.self.now in
    let h = c.args.hull.now in
    let near = are_near r.centre h c.requires.relief.centre c.requires.hull in
    in_order h.x0 r.centre.x _ _ r.reach r.brush
    (less_is h.x0 c.x0.result c.less-left.result r.reach c.x0.ensures.value near.x0 c.less-left.ensures.value c.less-left.ensures.near)
    (more_is r.centre.x r.centre.x c.more-right.result r.brush refl near.x c.more-right.ensures.value c.more-right.ensures.near)
    c.requires.hull.centre.x_low

pub returns : goal.returns
returns c =
    let r = c.args.self.now in
    let h = c.args.hull.now in
    let near = are_near r.centre h c.requires.relief.centre c.requires.hull in
    c.rectangle.ensures
    ∙ box_same _ _ _ _ _ _ _ _
    (less_is h.x0 c.x0.result c.less-left.result r.reach c.x0.ensures.value near.x0 c.less-left.ensures.value c.less-left.ensures.near)
    (more_is r.centre.x r.centre.x c.more-right.result r.brush refl near.x c.more-right.ensures.value c.more-right.ensures.near)
    (less_is r.centre.y r.centre.y c.less.result r.half refl near.y c.less.ensures.value c.less.ensures.near)
    (more_is r.centre.y r.centre.y c.more.result r.half refl near.y c.more.ensures.value c.more.ensures.near)
