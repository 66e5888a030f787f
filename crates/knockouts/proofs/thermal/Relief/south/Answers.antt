use Rattle.std.proofs.Common.{refl, ◌∙◌}
use Rattle.knockouts.proofs.Boxes.{are_near, near_read, less_is, more_is, in_order, box_same}
use Rattle.knockouts.proofs.thermal.Relief.south.Goals as goal

pub more-bottom-requires : goal.more-bottom-requires
more-bottom-requires c = near_read c.args.hull.now.y1 c.y1.result c.y1.ensures.value (are_near c.args.self.now.centre c.args.hull.now c.requires.relief.centre c.requires.hull).y1

pub less-top-requires : goal.less-top-requires
less-top-requires c = near_read _ c.args.self.now.centre.y refl (are_near c.args.self.now.centre c.args.hull.now c.requires.relief.centre c.requires.hull).y

pub less-requires : goal.less-requires
less-requires c = near_read _ c.args.self.now.centre.x refl (are_near c.args.self.now.centre c.args.hull.now c.requires.relief.centre c.requires.hull).x

pub more-requires : goal.more-requires
more-requires c = near_read _ c.args.self.now.centre.x refl (are_near c.args.self.now.centre c.args.hull.now c.requires.relief.centre c.requires.hull).x

pub rectangle-requires-clause-high : goal.rectangle-requires-clause-high
rectangle-requires-clause-high c =
    let r = c.args.self.now in
    let h = c.args.hull.now in
    let near = are_near r.centre h c.requires.relief.centre c.requires.hull in
    in_order r.centre.y h.y1 _ _ r.brush r.reach
    (less_is r.centre.y r.centre.y c.less-top.result r.brush refl near.y c.less-top.ensures.value c.less-top.ensures.near)
    (more_is h.y1 c.y1.result c.more-bottom.result r.reach c.y1.ensures.value near.y1 c.more-bottom.ensures.value c.more-bottom.ensures.near)
    c.requires.hull.centre.y_high

pub returns : goal.returns
returns c =
    let r = c.args.self.now in
    let h = c.args.hull.now in
    let near = are_near r.centre h c.requires.relief.centre c.requires.hull in
    c.rectangle.ensures
    ∙ box_same _ _ _ _ _ _ _ _
    (less_is r.centre.x r.centre.x c.less.result r.half refl near.x c.less.ensures.value c.less.ensures.near)
    (more_is r.centre.x r.centre.x c.more.result r.half refl near.x c.more.ensures.value c.more.ensures.near)
    (less_is r.centre.y r.centre.y c.less-top.result r.brush refl near.y c.less-top.ensures.value c.less-top.ensures.near)
    (more_is h.y1 c.y1.result c.more-bottom.result r.reach c.y1.ensures.value near.y1 c.more-bottom.ensures.value c.more-bottom.ensures.near)
