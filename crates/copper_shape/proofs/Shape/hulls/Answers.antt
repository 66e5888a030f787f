use Rattle.copper_shape.specs.contracts.Shape.{the_view}
use Rattle.hulls.proofs.Pads.{one_hull_law, centre_law}
use Rattle.copper_shape.proofs.Areas.{if_ok, holds_copper}
use Rattle.copper_shape.proofs.Reach.{shape_reach}
use Rattle.copper_shape.proofs.Shape.hulls.Goals as goal

pub returns : goal.returns
returns c =
    let v = the_view c.self.inside in
    rw (← c.self.view_is)
    (record {
      value = c.hulls_of.ensures;
      copper = if_ok _ _ c.hulls_of.result (λ hulls e. holds_copper v.core v.radius hulls.items e) c.hulls_of.ensures;
      pad = if_ok _ _ c.hulls_of.result (λ hulls e p. rw e (one_hull_law v.core v.radius p)) c.hulls_of.ensures;
      centre = if_ok _ _ c.hulls_of.result (λ hulls e p x y i. rw e (centre_law v.core v.radius x y p i)) c.hulls_of.ensures;
      reach = if_ok _ _ c.hulls_of.result (λ hulls e. shape_reach v.core v.radius hulls.items e c.self.invariant.whole c.self.invariant.within c.self.invariant.radius) c.hulls_of.ensures;
    })
