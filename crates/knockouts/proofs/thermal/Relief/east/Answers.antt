use Rattle.std.proofs.Common.{refl, ◌∙◌}
use Rattle.knockouts.proofs.Boxes.{are_near, near_read, less_is, more_is, in_order, box_same}
use Rattle.knockouts.proofs.thermal.Relief.east.Goals as goal

pub more-right-requires : goal.more-right-requires
more-right-requires c = near_read c.args.hull.now.x1 c.x1.result c.x1.ensures.value (are_near c.args.self.now.centre c.args.hull.now c.requires.relief.centre c.requires.hull).x1

pub less-left-requires : goal.less-left-requires
less-left-requires c = near_read _ c.args.self.now.centre.x refl (are_near c.args.self.now.centre c.args.hull.now c.requires.relief.centre c.requires.hull).x

pub less-requires : goal.less-requires
less-requires c = near_read _ c.args.self.now.centre.y refl (are_near c.args.self.now.centre c.args.hull.now c.requires.relief.centre c.requires.hull).y

pub more-requires : goal.more-requires
more-requires c = near_read _ c.args.self.now.centre.y refl (are_near c.args.self.now.centre c.args.hull.now c.requires.relief.centre c.requires.hull).y

pub rectangle-requires-clause-wide : goal.rectangle-requires-clause-wide
rectangle-requires-clause-wide c =
    let r = c.args.self.now in
    let h = c.args.hull.now in
    let near = are_near r.centre h c.requires.relief.centre c.requires.hull in
    in_order r.centre.x h.x1 _ _ r.brush r.reach
    (less_is r.centre.x r.centre.x c.less-left.result r.brush refl near.x c.less-left.ensures.value c.less-left.ensures.near)
    (more_is h.x1 c.x1.result c.more-right.result r.reach c.x1.ensures.value near.x1 c.more-right.ensures.value c.more-right.ensures.near)
    c.requires.hull.centre.x_high

pub returns : goal.returns
returns c =
    let r = c.args.self.now in
    let h = c.args.hull.now in
    let near = are_near r.centre h c.requires.relief.centre c.requires.hull in
    c.rectangle.ensures
    ∙ box_same _ _ _ _ _ _ _ _
    (less_is r.centre.x r.centre.x c.less-left.result r.brush refl near.x c.less-left.ensures.value c.less-left.ensures.near)
    (more_is h.x1 c.x1.result c.more-right.result r.reach c.x1.ensures.value near.x1 c.more-right.ensures.value c.more-right.ensures.near)
    (less_is r.centre.y r.centre.y c.less.result r.half refl near.y c.less.ensures.value c.less.ensures.near)
    (more_is r.centre.y r.centre.y c.more.result r.half refl near.y c.more.ensures.value c.more.ensures.near)
