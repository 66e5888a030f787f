use Rattle.std.proofs.Common.{sym, ◌∙◌, subst}
use Rattle.grid_num.specs.declared.Point.{Point}
use Rattle.plane.specs.Corners.{corners_of}
use Rattle.clusters.specs.Inner.Corners.{IsLeastPoint}
use Rattle.clusters.proofs.Corners.{top_left, corner_is}
use Rattle.clusters.proofs.anchors.top_corner.Goals as goal

pub returns : goal.returns
returns c =
    let o = c.args.oct.now in
    let i = c.s0.ensures.oct in
    subst (λ (p : Point). IsLeastPoint p (corners_of o)) (sym (c.at.ensures ∙ corner_is o _ _ c.requires i.tight c.s0.ensures.value c.y0-top.ensures.value)) (top_left o i.tight)
